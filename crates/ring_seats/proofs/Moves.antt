-- Each step preserves the rule of the ring.
use Rattle.std.proofs.Common.{arith, rules, ◌≡◌, ◌≢◌, ℕ, zero, suc, Bool, true, false, true≢false, ◌⊎◌, List, [], ◌∷◌, ◌++◌, length, get_or, set, slice_index, Some, None, sym, refl, ap, ◌∙◌, subst, inl, inr, ⊎_elim, append_assoc, append-nil, length-set, get_or-set_same, get_or-set_other}
use Rattle.ring_seats.proofs.Common.{length-replicate, get_elem?, Shape, Side, P, C, Bit, Act, ReadBegin, ReadEnd, WriteBegin, WriteEnd, Access, Event, belongs, other, writer, reader}
use Rattle.ring_seats.proofs.Common.{open_access, IsLawful, MayFollow, subhistory, IsPrefix, View, Follows, IsRing, GoesOn}
use Rattle.std.proofs.lemmas.Bool.{cases_eq}
use mathlib.Core.Option.{some, some-injective, some-ne-none}
use Rattle.atomic_table.specs.Table.{Me, State, keeps, opening, Allows, Enters, Splits, Joins}
use Rattle.atomic_table.proofs.Lists.{at_set, at_snoc, at_last, at_longer, set_else}
use Rattle.bits_core.specs.declared.events.Access.TheVariants.{Read, Write}
use Rattle.ring_seats.specs.Words.{value_word, shown, answer_of, word_place, word_count, first_words, Shows}
use Rattle.ring_seats.specs.Rule.{event, joint, spent, putter_of, taker_of, joined, may_step, list_of, IsIdle, FirstLoad, SeatKnows, SeatsKnow, HasSeats, KeptBy, KeepsFlickerRule, IsWordFound, Learned}
use Rattle.ring_seats.proofs.Grown.{kept_load, and_event, Added}
use Rattle.ring_seats.proofs.Places.{one_or_apart, place_below, shows_first}
use Rattle.ring_seats.proofs.Histories.{same_side-same, either_side, before_last-theirs, own-mine, own-theirs, open-mine, shown-read_begin, shown-read_end, shown-apart, shown-write_begin, shown-write_end, permitted, same_side-other as not_by}
use Rattle.bits_core.proofs.LawLemmas.{empty_is_lawful, lawful_by_one_more, open_from_own, open_changes, before_last_changes}
use Rattle.ring_core.proofs.LawLemmas.{runs_by_one_more_put, runs_by_one_more_take}

-- what a step of the side x at the bit b needs of the history so far, if the word becomes `new`, and a load found or a store wrote `got`
pub record IsGood (shape : Shape) (x : Side) (b : Bit) (list h : List Event) (new got : ℕ) (act : Act) : Type 0 where
  pub may : MayFollow shape h (event x b act)
  pub word : new ≡ shown b (h ++ event x b act ∷ [])
  pub follow : Follows shape x (list ++ event x b act ∷ [])
  pub load : act ≡ ReadBegin → got ≡ shown b h

-- a history whose sides follow their programs, and one more event of a side's program
pub ring_more : (shape : Shape) (x : Side) (h : List Event) (e : Event) → e.side ≡ x → IsRing shape h → MayFollow shape h e → Follows shape x (subhistory x h ++ e ∷ []) → IsRing shape (h ++ e ∷ [])
ring_more shape P h e by r may f = record { puts = f.0; takes = r.takes; run = runs_by_one_more_put shape h e r.puts f.0 r.takes r.run by may f.1 f.2 }
ring_more shape C h e by r may f = record { puts = r.puts; takes = f.0; run = runs_by_one_more_take shape h e r.puts r.takes f.0 r.run by may f.1 f.2 }

-- each side of such a history follows its program
pub ring_follows : (shape : Shape) (h : List Event) → IsRing shape h → (x : Side) → Follows shape x (subhistory x h)
ring_follows shape h h1 x = grind arith

-- a history with no event
pub ring_empty : (shape : Shape) → IsRing shape []
ring_empty shape = record {
  puts = record { puts = []; closes = false };
  takes = record { takes = []; end = Rattle.ring_core.specs.Takes.Open };
  run = grind (arith, empty_is_lawful);
}

pub list_of-mine : (x : Side) (e : Event) (got : ℕ) (v : View) → list_of x (and_event x e got v) ≡ list_of x v ++ e ∷ []
list_of-mine x e got v = grind arith

pub may_step-more : (x y : Side) (e : Event) (got : ℕ) (v : View) → may_step y (and_event x e got v) ≡ may_step y v
may_step-more x y e got v = grind arith

-- ---- for each side there is a seat that may step for it

set_there : (views : List View) (id : ℕ) (v w : View) → get_elem? views id ≡ some v → get_elem? (set views id w) id ≡ some w
set_there [] id v w at = absurd (some-ne-none v (sym at))
set_there (x ∷ xs) zero v w at = refl
set_there (x ∷ xs) (suc id) v w at = set_there xs id v w at

-- even if one of them has another view, with which it may step as before
pub each_stays : (owner : Side → ℕ) (views : List View) (id : ℕ) (v w : View) → get_elem? views id ≡ some v → ((y : Side) → may_step y v ≡ true → may_step y w ≡ true) → HasSeats owner views → HasSeats owner (set views id w)
each_stays owner views id v w at may each y =
    let (u, there, can) = each y in
    ⊎_elim
    (λ (same : owner y ≡ id).
    let is : u ≡ v = some-injective u v (sym there ∙ ap (get_elem? views) same ∙ at) in
    (w, ap (get_elem? (set views id w)) same ∙ set_there views id v w at, may y (ap (may_step y) (sym is) ∙ can)))
    (λ (apart : owner y ≢ id). (u, set_else views id (owner y) w apart ∙ there, can))
    (cases_eq (owner y) id)

-- what is open after a step
pub opened_by : (x : Side) (b : Bit) (a : Act) (got : ℕ) (v w : View) → w ≡ and_event x (event x b a) got v → open_access x (list_of x w) ≡ Rattle.bits_core.specs.Bits.begun_access b a
opened_by x b a got v w is = grind (arith, list_of-mine, open-mine, same_side-same)

module _ (shape : Shape) where
  shows_more : (words : List ℕ) (x : Side) (b : Bit) (a : Act) (h : List Event) (new : ℕ) → IsLawful shape h → MayFollow shape h (event x b a) → length words ≡ word_count shape → belongs shape b ≡ true → Shows shape words h → new ≡ shown b (h ++ event x b a ∷ [])
      → Shows shape (set words (word_place shape b) new) (h ++ event x b a ∷ [])
  shows_more words x b a h new lawful may wide has shows is c has' = grind (arith, get_or-set_other, get_or-set_same, one_or_apart, place_below, set, shown-apart)

  load_mine : (x : Side) (b : Bit) (a : Act) (h : List Event) (got load : ℕ) → (a ≡ ReadBegin → got ≡ shown b h) → FirstLoad x (h ++ event x b a ∷ []) (kept_load a got load)
  load_mine x b a h got load is c o = grind (arith, before_last_changes, open-mine, same_side-same)

  load_theirs : (x : Side) (b : Bit) (a : Act) (h : List Event) (load : ℕ) → FirstLoad (other x) h load → FirstLoad (other x) (h ++ event x b a ∷ []) load
  load_theirs x b a h load f c o = grind (arith, before_last-theirs, not_by, open_changes)

  fits_mine : (x : Side) (b : Bit) (a : Act) (h known : List Event) (owner : Side → ℕ) (seat : ℕ) (v : View) (got : ℕ) → (a ≡ ReadBegin → got ≡ shown b h) → SeatKnows h known owner seat v x
      → SeatKnows (h ++ event x b a ∷ []) known owner seat (and_event x (event x b a) got v) x
  fits_mine x b a h known owner seat v got is f = grind (arith, list_of-mine, load_mine, own-mine, same_side-same)

  fits_theirs : (x : Side) (b : Bit) (a : Act) (h known : List Event) (owner : Side → ℕ) (seat : ℕ) (v : View) → SeatKnows h known owner seat v (other x) → SeatKnows (h ++ event x b a ∷ []) known owner seat v (other x)
  fits_theirs x b a h known owner seat v f = search (rules, load_theirs, not_by, own-theirs)

  seats_more : (x : Side) (b : Bit) (a : Act) (h known : List Event) (owner : Side → ℕ) (views : List View) (id : ℕ) (v : View) (got : ℕ)
      → get_elem? views id ≡ some v → may_step x v ≡ true → may_step (other x) v ≡ false → (a ≡ ReadBegin → got ≡ shown b h) → SeatsKnow h known owner views
      → SeatsKnow (h ++ event x b a ∷ []) known owner (set views id (and_event x (event x b a) got v))
  seats_more x b a h known owner views id v got there mine not_theirs is all seat u at y may =
      let w : View = and_event x (event x b a) got v in
      ⊎_elim
      (λ (here : (seat ≡ id) × (w ≡ u)). subst (λ (z : ℕ × View). SeatKnows (h ++ event x b a ∷ []) known owner z.0 z.1 y) (λ i. (sym here.0 i, here.1 i))
      (⊎_elim
      (λ (same : y ≡ x). subst (SeatKnows (h ++ event x b a ∷ []) known owner id w) (sym same) (fits_mine x b a h known owner id v got is (all id v there x mine)))
      (λ (apart : y ≡ other x). absurd (true≢false (sym may ∙ (ap (may_step y) (sym here.1) ∙ (may_step-more x y (event x b a) got v ∙ (ap (λ (z : Side). may_step z v) apart ∙ not_theirs))))))
      (either_side x y)))
      (λ (there' : (seat ≢ id) × (get_elem? views seat ≡ some u)).
      ⊎_elim
      (λ (same : y ≡ x). absurd (there'.0 ((all seat u there'.1 x (ap (λ (z : Side). may_step z u) (sym same) ∙ may)).at ∙ sym (all id v there x mine).at)))
      (λ (apart : y ≡ other x). subst (SeatKnows (h ++ event x b a ∷ []) known owner seat u) (sym apart) (fits_theirs x b a h known owner seat u (all seat u there'.1 (other x) (ap (λ (z : Side). may_step z u) (sym apart) ∙ may))))
      (either_side x y))
      (at_set views id seat w u at)

  begins_more : (h known : List Event) (e : Event) → IsPrefix known h → IsPrefix known (h ++ e ∷ [])
  begins_more h known e s = (s.0 ++ e ∷ [], sym (append_assoc known s.0 (e ∷ [])) ∙ ap (λ (l : List Event). l ++ e ∷ []) s.1)

  -- a step of one end, at one bit
  pub moves : (x : Side) (b : Bit) (act : ℕ → Act) (f got : ℕ → ℕ) (slots id : ℕ) (me : Me (Unit {0}) View)
      → may_step x me.0 ≡ true → may_step (other x) me.0 ≡ false → belongs shape b ≡ true
      → ((h : List Event) (n : ℕ) → IsRing shape h → list_of x me.0 ≡ subhistory x h → FirstLoad x h me.0.first → n ≡ shown b h → IsGood shape x b (list_of x me.0) h (f n) (got n) (act (got n)))
      → Allows (KeepsFlickerRule shape) slots id me (word_place shape b) f (λ n m'. Added shape (λ k. event x b (act k)) me (got n) m')
  moves x b act f got slots id me mine not_theirs has good s k homes at small =
      let h : List Event = k.history in
      let n : ℕ = slice_index s.words (word_place shape b) in
      let a : Act = act (got n) in
      let e : Event = event x b a in
      let w : View = and_event x e (got n) me.0 in
      let fits : SeatKnows h k.known k.owner id me.0 x = k.seats id me.0 at x mine in
      let g : IsGood shape x b (list_of x me.0) h (f n) (got n) a = good h n k.ring fits.list fits.load (k.shows b has) in
      let lawful : IsLawful shape h = k.ring.run.lawful in
      let ring : IsRing shape (h ++ e ∷ []) = ring_more shape x h e refl k.ring g.may (subst (λ (l : List Event). Follows shape x (l ++ e ∷ [])) fits.list g.follow) in
      let begins : IsPrefix k.known (h ++ e ∷ []) = begins_more h k.known e k.begins in (
        w,
        keeps,
        tt,
        record {
          history = h ++ e ∷ [];
          known = k.known;
          owner = k.owner;
          ring = ring;
          wide = length-set s.words (word_place shape b) (f n) ∙ k.wide;
          shows = shows_more s.words x b a h (f n) lawful g.may k.wide has k.shows g.word;
          begins = begins;
          each = each_stays k.owner s.views id me.0 w at (λ y can. may_step-more x y e (got n) me.0 ∙ can) k.each;
          seats = seats_more x b a h k.known k.owner s.views id me.0 (got n) at mine not_theirs g.load k.seats;
        },
        record {
          view = refl;
          carried = refl;
          stands = grind (arith, own-mine, same_side-same, list_of-mine);
        },
      )

  -- the four kinds of step of an end

  open_there : (x : Side) (o : Rattle.std.specs.Prelude.Option Access) (list h : List Event) → list ≡ subhistory x h → open_access x list ≡ o → open_access x h ≡ o
  open_there x o list h is at = open_from_own x h ∙ (ap (open_access x) (sym is) ∙ at)

  module _ (x : Side) (b : Bit) (slots id : ℕ) (me : Me (Unit {0}) View) (mine : may_step x me.0 ≡ true) (not_theirs : may_step (other x) me.0 ≡ false) (has : belongs shape b ≡ true) where
    pub begins_read : x ≡ reader b → IsIdle x (list_of x me.0) → Follows shape x (list_of x me.0 ++ event x b ReadBegin ∷ [])
        → Allows (KeepsFlickerRule shape) slots id me (word_place shape b) (λ n. n) (Added shape (λ k. event x b ReadBegin) me)
    begins_read r idle follow = moves x b (λ _. ReadBegin) (λ n. n) (λ n. n) slots id me mine not_theirs has
        (λ h n ring list load is.
        let may : MayFollow shape h (event x b ReadBegin) = record { right_side = record { in_shape = has; by_doer = r }; in_turn = open_there x None (list_of x me.0) h list idle; permitted = tt } in
        record {
          may = may;
          word = is ∙ sym (shown-read_begin shape x b h ring.run.lawful may b);
          follow = follow;
          load = λ _. is;
        })

    pub ends_read : x ≡ reader b → open_access x (list_of x me.0) ≡ Some (Read b) → GoesOn shape x (Read b) (list_of x me.0) → (said : Bool)
        → Allows (KeepsFlickerRule shape) slots id me (word_place shape b) (λ n. n) (Added shape (λ k. event x b (ReadEnd (answer_of me.0.first k said))) me)
    ends_read r at goes said = moves x b (λ k. ReadEnd (answer_of me.0.first k said)) (λ n. n) (λ n. n) slots id me mine not_theirs has
        (λ h n ring list load is.
        let a : Bool = answer_of me.0.first n said in
        let at_work : open_access x h ≡ Some (Read b) = open_there x (Some (Read b)) (list_of x me.0) h list at in
        let may : MayFollow shape h (event x b (ReadEnd a)) = record {
          right_side = record { in_shape = has; by_doer = r };
          in_turn = at_work;
          permitted = permitted shape x b h me.0.first n said ring.run.lawful r (load b at_work) is;
        } in
        record {
          may = may;
          word = is ∙ sym (shown-read_end shape x b h ring.run.lawful a may b);
          follow = goes h a ((lawful_by_one_more shape h (event x b (ReadEnd a))).1 (ring.run.lawful, may)) ring (sym list);
          load = λ e. absurd (cc);
        })

    pub begins_write : x ≡ writer b → IsIdle x (list_of x me.0) → (v : Bool) → Follows shape x (list_of x me.0 ++ event x b (WriteBegin v) ∷ [])
        → Allows (KeepsFlickerRule shape) slots id me (word_place shape b) (λ _. 2) (λ _. Added shape (λ k. event x b (WriteBegin v)) me 2)
    begins_write w idle v follow = moves x b (λ _. WriteBegin v) (λ _. 2) (λ _. 2) slots id me mine not_theirs has
        (λ h n ring list load is.
        let may : MayFollow shape h (event x b (WriteBegin v)) = record { right_side = record { in_shape = has; by_doer = w }; in_turn = open_there x None (list_of x me.0) h list idle; permitted = tt } in
        record {
          may = may;
          word = sym (shown-write_begin shape x b h ring.run.lawful v w);
          follow = follow;
          load = λ e. absurd (cc);
        })

    pub ends_write : x ≡ writer b → (v : Bool) → open_access x (list_of x me.0) ≡ Some (Write b v) → GoesOn shape x (Write b v) (list_of x me.0)
        → Allows (KeepsFlickerRule shape) slots id me (word_place shape b) (λ _. value_word v) (λ _. Added shape (λ k. event x b WriteEnd) me (value_word v))
    ends_write w v at goes = moves x b (λ _. WriteEnd) (λ _. value_word v) (λ _. value_word v) slots id me mine not_theirs has
        (λ h n ring list load is.
        let at_work : open_access x h ≡ Some (Write b v) = open_there x (Some (Write b v)) (list_of x me.0) h list at in
        let may : MayFollow shape h (event x b WriteEnd) = record { right_side = record { in_shape = has; by_doer = w }; in_turn = (v, at_work); permitted = tt } in
        record {
          may = may;
          word = sym (shown-write_end shape x b h ring.run.lawful v w at_work);
          follow = goes h v ((lawful_by_one_more shape h (event x b WriteEnd)).1 (ring.run.lawful, may)) ring (sym list);
          load = λ e. absurd (cc);
        })

-- the seats

two_seats : ℕ → ℕ → Side → ℕ
two_seats p t P = p
two_seats p t C = t

at_end : (l : List View) (a b : View) (j : ℕ) → get_elem? (l ++ a ∷ []) j ≡ some b → (get_elem? l j ≡ some b) ⊎ ((j ≡ length l) × (a ≡ b))
at_end [] a b zero e = inr (refl, some-injective a b e)
at_end [] a b (suc j) e = absurd (some-ne-none b (sym e))
at_end (x ∷ xs) a b zero e = inl e
at_end (x ∷ xs) a b (suc j) e = ⊎_elim (λ t. inl t) (λ t. inr (ap suc t.0, t.1)) (at_end xs a b j e)

split_seats : (h known : List Event) (owner : Side → ℕ) (views : List View) (id : ℕ) (v : View) → get_elem? views id ≡ some v → v.puts ≡ true → v.takes ≡ true → SeatsKnow h known owner views
    → SeatsKnow h known (two_seats id (length views)) (set views id (putter_of v) ++ taker_of v ∷ [])
unfolding two_seats
split_seats h known owner views id v there puts takes all seat u at y may =
    ⊎_elim
    (λ was. ⊎_elim
    (λ (here : (seat ≡ id) × (putter_of v ≡ u)). left_fits seat u here.0 here.1 y may)
    (λ (apart : (seat ≢ id) × (get_elem? views seat ≡ some u)). absurd (apart.0 ((all seat u apart.1 y may).at ∙ sym (owner_is y))))
    (at_set views id seat (putter_of v) u was))
    (λ (last : (seat ≡ length (set views id (putter_of v))) × (taker_of v ≡ u)). right_fits seat u (last.0 ∙ length-set views id (putter_of v)) last.1 y may)
    (at_end (set views id (putter_of v)) (taker_of v) u seat at)
  where
    owner_is : (z : Side) → id ≡ owner z
    owner_is P = (all id v there P puts).at
    owner_is C = (all id v there C takes).at

    left_fits : (seat : ℕ) (u : View) → seat ≡ id → putter_of v ≡ u → (z : Side) → may_step z u ≡ true → SeatKnows h known (two_seats id (length views)) seat u z
    left_fits seat u is same P may = subst (λ (w : View). SeatKnows h known (two_seats id (length views)) seat w P) same
        (let f = all id v there P puts in record { at = is; list = f.list; known_is = f.known_is; known_by_taker_is = f.known_by_taker_is; load = f.load })
    left_fits seat u is same C may = absurd (true≢false (sym may ∙ ap (λ (w : View). w.takes) (sym same)))

    right_fits : (seat : ℕ) (u : View) → seat ≡ length views → taker_of v ≡ u → (z : Side) → may_step z u ≡ true → SeatKnows h known (two_seats id (length views)) seat u z
    right_fits seat u is same P may = absurd (true≢false (sym may ∙ ap (λ (w : View). w.puts) (sym same)))
    right_fits seat u is same C may = subst (λ (w : View). SeatKnows h known (two_seats id (length views)) seat w C) same
        (let f = all id v there C takes in record { at = is; list = f.list; known_is = f.known_is; known_by_taker_is = f.known_by_taker_is; load = f.load })

split_each : (views : List View) (id : ℕ) (v : View) → get_elem? views id ≡ some v → HasSeats (two_seats id (length views)) (set views id (putter_of v) ++ taker_of v ∷ [])
unfolding two_seats
split_each views id v at P = (putter_of v, at_longer (set views id (putter_of v)) (taker_of v ∷ []) id (putter_of v) (set_there views id v (putter_of v) at), refl)
split_each views id v at C = (taker_of v, at_last (set views id (putter_of v)) (taker_of v) (length views) (length-set views id (putter_of v)), refl)

-- other seats keep the same words and the same history
reseated :
    (count : Shape → ℕ) (IsShown : Shape → List ℕ → List Event → Type 0) (shape : Shape) (s s' : State (Unit {0}) View) (k : KeptBy count IsShown shape s) (owner : Side → ℕ) → s.words ≡ s'.words →
    HasSeats owner s'.views → SeatsKnow k.history k.known owner s'.views → KeptBy count IsShown shape s'
reseated count IsShown shape s s' k owner same each seats = record {
  history = k.history;
  known = k.known;
  owner = owner;
  ring = k.ring;
  wide = subst (λ (words : List ℕ). length words ≡ count shape) same k.wide;
  shows = subst (λ (words : List ℕ). IsShown shape words k.history) same k.shows;
  begins = k.begins;
  each = each;
  seats = seats;
}

pub splits : (count : Shape → ℕ) (IsShown : Shape → List ℕ → List Event → Type 0) (shape : Shape) (id : ℕ) (v : View) → v.puts ≡ true → v.takes ≡ true → Splits (KeptBy count IsShown shape) id v (putter_of v) (taker_of v)
splits count IsShown shape id v puts takes s k at =
    reseated count IsShown shape s _ k (two_seats id (length s.views)) refl (split_each s.views id v at) (split_seats k.history k.known k.owner s.views id v at puts takes k.seats)

pub no_load : (x : Side) (h : List Event) (load : ℕ) → open_access x h ≡ None → FirstLoad x h load
no_load x h load none b some_read = absurd (cc)

module _ (shape : Shape) where
  join_seats : (h known : List Event) (owner : Side → ℕ) (views : List View) (id : ℕ) (v : View) (there : ℕ) (w : View)
      → get_elem? views id ≡ some v → ¬ (there ≡ id) → get_elem? views there ≡ some w → v.puts ≡ true → w.takes ≡ true → IsIdle P v.put → IsIdle C w.taken → SeatsKnow h known owner views
      → SeatsKnow h known (two_seats id id) (set (set views id (joined v w)) there spent)
  unfolding two_seats
  join_seats h known owner views id v there w at apart at' puts takes idle idle' all seat u is y may =
      ⊎_elim
      (λ (gone : (seat ≡ there) × (spent ≡ u)). absurd (never u gone.1 y may))
      (λ (left : (seat ≢ there) × (get_elem? (set views id (joined v w)) seat ≡ some u)).
      ⊎_elim
      (λ (here : (seat ≡ id) × (joined v w ≡ u)). both_fit seat u here.0 here.1 y)
      (λ (else_where : (seat ≢ id) × (get_elem? views seat ≡ some u)). absurd (none_else seat u else_where.0 left.0 else_where.1 y may))
      (at_set views id seat (joined v w) u left.1))
      (at_set (set views id (joined v w)) there seat spent u is)
    where
      putter : SeatKnows h known owner id v P
      putter = all id v at P puts

      taker : SeatKnows h known owner there w C
      taker = all there w at' C takes

      never : (u : View) → spent ≡ u → (z : Side) → may_step z u ≡ true → ⊥
      never u same P may = true≢false (sym may ∙ ap (λ (w : View). w.puts) (sym same))
      never u same C may = true≢false (sym may ∙ ap (λ (w : View). w.takes) (sym same))

      none_else : (seat : ℕ) (u : View) → seat ≢ id → seat ≢ there → get_elem? views seat ≡ some u → (z : Side) → may_step z u ≡ true → ⊥
      none_else seat u away away' at P may = away ((all seat u at P may).at ∙ sym putter.at)
      none_else seat u away away' at C may = away' ((all seat u at C may).at ∙ sym taker.at)

      both_fit : (seat : ℕ) (u : View) → seat ≡ id → joined v w ≡ u → (z : Side) → SeatKnows h known (two_seats id id) seat u z
      both_fit seat u is same P = subst (λ (t : View). SeatKnows h known (two_seats id id) seat t P) same
          (record { at = is; list = putter.list; known_is = putter.known_is; known_by_taker_is = taker.known_is; load = no_load P h 0 (open_there shape P None v.put h putter.list idle) })
      both_fit seat u is same C = subst (λ (t : View). SeatKnows h known (two_seats id id) seat t C) same
          (record { at = is; list = taker.list; known_is = putter.known_is; known_by_taker_is = taker.known_is; load = no_load C h 0 (open_there shape C None w.taken h taker.list idle') })

  join_each : (views : List View) (id : ℕ) (v : View) (there : ℕ) (w : View) → get_elem? views id ≡ some v → ¬ (there ≡ id) → HasSeats (two_seats id id) (set (set views id (joined v w)) there spent)
  unfolding two_seats
  join_each views id v there w at apart = both
    where
      joint_at : get_elem? (set (set views id (joined v w)) there spent) id ≡ some (joined v w)
      joint_at = set_else (set views id (joined v w)) there id spent (λ e. apart (sym e)) ∙ set_there views id v (joined v w) at

      both : HasSeats (two_seats id id) (set (set views id (joined v w)) there spent)
      both P = (joined v w, joint_at, refl)
      both C = (joined v w, joint_at, refl)

  pub joins : (count : Shape → ℕ) (IsShown : Shape → List ℕ → List Event → Type 0) (id : ℕ) (v : View) (there : ℕ) (w : View) → v.puts ≡ true → w.takes ≡ true → IsIdle P v.put → IsIdle C w.taken
      → Joins (KeptBy count IsShown shape) id v there w (joined v w) spent
  joins count IsShown id v there w puts takes idle idle' s k at apart at' =
      reseated count IsShown shape s _ k (two_seats id id) refl (join_each s.views id v there w at apart)
      (join_seats k.history k.known k.owner s.views id v there w at apart
      (⊎_elim (λ (same : (there ≡ id) × (joined v w ≡ w)). absurd (apart same.0)) (λ (t : (there ≢ id) × (get_elem? s.views there ≡ some w)). t.1) (at_set s.views id there (joined v w) w at'))
      puts takes idle idle' k.seats)

-- the joint seat learns

pub set-same : (l : List ℕ) (i : ℕ) → set l i (get_or l i 0) ≡ l
set-same [] i = refl
set-same (x ∷ xs) zero = refl
set-same (x ∷ xs) (suc i) = ap (λ (l : List ℕ). x ∷ l) (set-same xs i)

abbrev knower : View → List Event → View
knower v h = joint v.put v.taken h h

-- the joint view may step for both sides
knows_both : (v : View) (h : List Event) (y : Side) → may_step y (knower v h) ≡ true
knows_both v h y = grind arith

module _ (shape : Shape) where
  learn_seats : (h known : List Event) (owner : Side → ℕ) (views : List View) (id : ℕ) (v : View) → get_elem? views id ≡ some v → v.puts ≡ true → v.takes ≡ true → IsIdle P v.put → IsIdle C v.taken → SeatsKnow h known owner views
      → SeatsKnow h h owner (set views id (knower v h))
  learn_seats h known owner views id v there puts takes idle idle' all seat u at y may =
      ⊎_elim
      (λ (here : (seat ≡ id) × (knower v h ≡ u)). here_fits seat u here.0 here.1 y)
      (λ (apart : (seat ≢ id) × (get_elem? views seat ≡ some u)). absurd (none_else seat u apart.0 apart.1 y may))
      (at_set views id seat (knower v h) u at)
    where
      putter : SeatKnows h known owner id v P
      putter = all id v there P puts

      taker : SeatKnows h known owner id v C
      taker = all id v there C takes

      none_else : (seat : ℕ) (u : View) → seat ≢ id → get_elem? views seat ≡ some u → (z : Side) → may_step z u ≡ true → ⊥
      none_else seat u away at P may = away ((all seat u at P may).at ∙ sym putter.at)
      none_else seat u away at C may = away ((all seat u at C may).at ∙ sym taker.at)

      here_fits : (seat : ℕ) (u : View) → seat ≡ id → knower v h ≡ u → (z : Side) → SeatKnows h h owner seat u z
      here_fits seat u is same P = subst (λ (t : View). SeatKnows h h owner seat t P) same
          (record { at = is ∙ putter.at; list = putter.list; known_is = refl; known_by_taker_is = refl; load = no_load P h 0 (open_there shape P None v.put h putter.list idle) })
      here_fits seat u is same C = subst (λ (t : View). SeatKnows h h owner seat t C) same
          (record { at = is ∙ taker.at; list = taker.list; known_is = refl; known_by_taker_is = refl; load = no_load C h 0 (open_there shape C None v.taken h taker.list idle') })

  pub learns : (count : Shape → ℕ) (IsShown : Shape → List ℕ → List Event → Type 0) (slots id i : ℕ) (me : Me (Unit {0}) View) → me.0.puts ≡ true → me.0.takes ≡ true → IsIdle P me.0.put → IsIdle C me.0.taken
      → Allows (KeptBy count IsShown shape) slots id me i (λ n. n) (λ _. Learned shape me)
  learns count IsShown slots id i me puts takes idle idle' s k homes at small =
      let h : List Event = k.history in
      let putter : SeatKnows h k.known k.owner id me.0 P = k.seats id me.0 at P puts in
      let taker : SeatKnows h k.known k.owner id me.0 C = k.seats id me.0 at C takes in (
        knower me.0 h,
        keeps,
        tt,
        record {
          history = h;
          known = h;
          owner = k.owner;
          ring = k.ring;
          wide = length-set s.words i (slice_index s.words i) ∙ k.wide;
          shows = subst (λ (l : List ℕ). IsShown shape l h) (sym (set-same s.words i)) k.shows;
          begins = ([], append-nil h);
          each = each_stays k.owner s.views id me.0 (knower me.0 h) at (λ y can. knows_both me.0 h y) k.each;
          seats = learn_seats h k.known k.owner s.views id me.0 at puts takes idle idle' k.seats;
        },
        record {
          view = refl;
          carried = refl;
          holds = grind arith;
        },
      )

-- the ring before any step

pub first_each : HasSeats (λ _. 0) (joint [] [] [] [] ∷ [])
first_each P = (joint [] [] [] [], refl, refl)
first_each C = (joint [] [] [] [], refl, refl)

-- a ring of any kind satisfies its rule if its first words show nothing
pub opens_so :
    (count : Shape → ℕ) (IsShown : Shape → List ℕ → List Event → Type 0) (shape : Shape) (words : List ℕ) → length words ≡ count shape → IsShown shape words [] →
    KeptBy count IsShown shape (opening words [] (joint [] [] [] []))
opens_so count IsShown shape words wide shows = record {
  history = [];
  known = [];
  owner = λ _. 0;
  ring = ring_empty shape;
  wide = wide;
  shows = shows;
  begins = ([], refl);
  each = first_each;
  seats = grind arith;
}

pub opens : (shape : Shape) → KeepsFlickerRule shape (opening (first_words shape) [] (joint [] [] [] []))
opens shape = grind (arith, length-replicate, length-set, opens_so, set, shows_first)

-- a load by no end

never_steps : (x : Side) (u : View) → spent ≡ u → may_step x u ≡ true → ⊥
never_steps x u h1 h2 = grind arith

-- it finds the word of a state that satisfies the rule
pub finds : (count : Shape → ℕ) (IsShown : Shape → List ℕ → List Event → Type 0) (shape : Shape) (slots place : ℕ) → Enters (KeptBy count IsShown shape) slots place (λ n _. IsWordFound (KeptBy count IsShown shape) place n)
finds count IsShown shape slots place s k homes small = (
  spent,
  reseated count IsShown shape s _ k k.owner refl (λ x. (let (v, at, may) = k.each x in (v, at_longer s.views (spent ∷ []) (k.owner x) v at, may)))
      (λ seat v at x may. ⊎_elim (λ was. k.seats seat v was x may) (λ same. absurd (never_steps x v same may)) (at_snoc s.views spent v seat at)),
  (s, k, refl),
)
