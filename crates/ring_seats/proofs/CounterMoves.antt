-- Each step of a counter ring preserves its rule.
use Rattle.std.proofs.Common.{◌≡◌, ◌≢◌, inl, ⊎_elim, ℕ, zero, suc, ◌^◌, ◌<◌, ◌≤◌, Bool, true, false, true≢false, List, [], ◌∷◌, ◌++◌, ◌==◌, length, set, slice_index, sym, refl, ap, ◌∙◌, subst, arith, append_assoc, length-set, get_or-set_same, get_or-set_other}
use Rattle.std.proofs.lemmas.Bool.Decides.{nat_tests}
use Rattle.std.proofs.lemmas.List.{length-replicate, get_or-replicate}
use Rattle.std.proofs.lemmas.Nat.{pow_pos}
use Rattle.std.proofs.lemmas.Bool.{cases_eq}
use Rattle.ring_seats.proofs.Common.{some, get_elem?, Shape, Side, P, C, Bit, X, Cell, Event, capacity_of, modulus_of, width_of, other, writer, same_bit, held, RowWrite, row_bit, writes_in}
use Rattle.ring_seats.proofs.Common.{unary_phrase, digit, digit_writes, digit_reads, word_write, word_read, zero_reads, scan_phrase, row_read_by, View, Follows, IsRing}
use Rattle.atomic_table.specs.Table.{Me, keeps, opening, Allows}
use Rattle.atomic_table.proofs.Lists.{at_set}
use Rattle.bits_core.specs.Made.{Made, Read, Write, events_of, subhistory, IsPrefix}
use Rattle.ring_seats.specs.Words as bits
use Rattle.ring_seats.specs.Rule.{joint, may_step, list_of, SeatKnows, SeatsKnow}
use Rattle.ring_seats.specs.Counters.{count_place, their_place, cell_place, words_of, first_counts, value_left, unary_over, IsLastCount, IsLastItem, ShowsWords, KeptWords}
use Rattle.ring_seats.proofs.Grown.{and_events, AddedAll, TellsNothing, IsBelow}
use Rattle.ring_seats.proofs.Histories.{either_side}
use Rattle.ring_seats.proofs.Rights.{AllRight, scan_right, unary_right, word_write_right, reads_right}
use Rattle.ring_seats.proofs.Moves.{set-same, opens_so, each_stays, no_load}
use Rattle.ring_seats.proofs.Blocks.{wrote, Answers, Blocked, block}
use Rattle.ring_seats.proofs.LastWrites.{Spares, spares_writes, spared, spared_bits, IsLast, stays_last, is_last_now, Lowest, count_shows, item_shows, held_left}
use Rattle.register_core.proofs.Counts.{row_writer}

-- ---- the seats

list_of-more : (x : Side) (es : List Event) (v : View) → list_of x (and_events x es v) ≡ list_of x v ++ es
list_of-more x es v = grind arith

may_step-more : (x y : Side) (es : List Event) (v : View) → may_step y (and_events x es v) ≡ may_step y v
may_step-more x y es v = grind arith

-- what complete accesses leave unchanged, and what they add
module _ (x : Side) (es : List Event) (v w : View) (is : w ≡ and_events x es v) where
  pub may_still : (y : Side) (may : Bool) → may_step y v ≡ may → may_step y w ≡ may
  may_still y may was = ap (may_step y) is ∙ may_step-more x y es v ∙ was

  pub list_more : list_of x w ≡ list_of x v ++ es
  list_more = ap (list_of x) is ∙ list_of-more x es v

module _ (shape : Shape) where
  seats_more : (x : Side) (made : List Made) (h known : List Event) (owner : Side → ℕ) (views : List View) (id : ℕ) (v : View) → Blocked shape x h made
      → get_elem? views id ≡ some v → may_step x v ≡ true → may_step (other x) v ≡ false → SeatsKnow h known owner views
      → SeatsKnow (h ++ events_of x made) known owner (set views id (and_events x (events_of x made) v))
  seats_more x made h known owner views id v blocked there mine not_theirs all seat u at y may =
      let es : List Event = events_of x made in
      let w : View = and_events x es v in
      let fits_mine : SeatKnows (h ++ es) known owner id w x = (let f = all id v there x mine in record { at = f.at; list = list_of-more x es v ∙ (ap (λ (l : List Event). l ++ es) f.list ∙ sym blocked.mine); known_is = f.known_is; known_by_taker_is = f.known_by_taker_is; load = no_load x (h ++ es) w.first (blocked.quiet.idle x) }) in
      ⊎_elim
      (λ (here : (seat ≡ id) × (w ≡ u)). subst (λ (z : ℕ × View). SeatKnows (h ++ es) known owner z.0 z.1 y) (λ i. (sym here.0 i, here.1 i))
      (⊎_elim
      (λ (same : y ≡ x). subst (SeatKnows (h ++ es) known owner id w) (sym same) fits_mine)
      (λ (apart : y ≡ other x). absurd (true≢false (sym may ∙ (ap (may_step y) (sym here.1) ∙ (may_step-more x y es v ∙ (ap (λ (z : Side). may_step z v) apart ∙ not_theirs))))))
      (either_side x y)))
      (λ (there' : (seat ≢ id) × (get_elem? views seat ≡ some u)).
      ⊎_elim
      (λ (same : y ≡ x). absurd (there'.0 ((all seat u there'.1 x (ap (λ (z : Side). may_step z u) (sym same) ∙ may)).at ∙ sym (all id v there x mine).at)))
      (λ (apart : y ≡ other x). subst (SeatKnows (h ++ es) known owner seat u) (sym apart)
      (let f = all seat u there'.1 (other x) (ap (λ (z : Side). may_step z u) (sym apart) ∙ may) in record { at = f.at; list = f.list ∙ sym blocked.theirs; known_is = f.known_is; known_by_taker_is = f.known_by_taker_is; load = no_load (other x) (h ++ es) u.first (blocked.quiet.idle (other x)) }))
      (either_side x y))
      (at_set views id seat w u at)

  begins_more : (h known es : List Event) → IsPrefix known h → IsPrefix known (h ++ es)
  begins_more h known es s = (s.0 ++ es, sym (append_assoc known s.0 es) ∙ ap (λ (l : List Event). l ++ es) s.1)

  -- what a step of the side x needs, if the word at the place becomes `new`
  pub record IsGoodBlock (x : Side) (list h : List Event) (words : List ℕ) (place new : ℕ) (made : List Made) (Tells : Type 0) : Type 0 where
    pub tells : Tells
    pub right : AllRight shape x made
    pub answers : Answers (λ b. held b h) made
    pub follow : Follows shape x (list ++ events_of x made)
    pub shows : Blocked shape x h made → ShowsWords shape (set words place new) (h ++ events_of x made)

  -- a step of one end, at one word
  moves : (x : Side) (place : ℕ) (made : ℕ → List Made) (tells : ℕ → Type 0) (f got : ℕ → ℕ) (slots id : ℕ) (me : Me (Unit {0}) View)
      → may_step x me.0 ≡ true → may_step (other x) me.0 ≡ false
      → ((h : List Event) (words : List ℕ) → IsRing shape h → list_of x me.0 ≡ subhistory x h → ShowsWords shape words h → length words ≡ words_of shape
      → IsGoodBlock x (list_of x me.0) h words place (f (slice_index words place)) (made (got (slice_index words place))) (tells (got (slice_index words place))))
      → Allows (KeptWords shape) slots id me place f (λ n m'. AddedAll shape x made tells me (got n) m')
  moves x place made tells f got slots id me mine not_theirs good s k homes at small =
      let h : List Event = k.history in
      let n : ℕ = slice_index s.words place in
      let acts : List Made = made (got n) in
      let es : List Event = events_of x acts in
      let w : View = and_events x es me.0 in
      let fits : SeatKnows h k.known k.owner id me.0 x = k.seats id me.0 at x mine in
      let g : IsGoodBlock x (list_of x me.0) h s.words place (f n) acts (tells (got n)) = good h s.words k.ring fits.list k.shows k.wide in
      let blocked : Blocked shape x h acts = block shape x acts h (record { ring = k.ring; idle = k.shows.idle }) g.right g.answers (subst (λ (l : List Event). Follows shape x (l ++ es)) fits.list g.follow) in
      let begins : IsPrefix k.known (h ++ es) = begins_more h k.known es k.begins in (
        w,
        keeps,
        tt,
        record {
          history = h ++ es;
          known = k.known;
          owner = k.owner;
          ring = blocked.quiet.ring;
          wide = length-set s.words place (f n) ∙ k.wide;
          shows = g.shows blocked;
          begins = begins;
          each = each_stays k.owner s.views id me.0 w at (λ y can. may_step-more x y es me.0 ∙ can) k.each;
          seats = seats_more x acts h k.known k.owner s.views id me.0 blocked at mine not_theirs k.seats;
        },
        record {
          view = refl;
          carried = refl;
          tells = g.tells;
          stands = grind (arith, list_of-more);
        },
      )

  -- ---- what the words show after a step

  module _ (x : Side) (made : List Made) (h : List Event) (blocked : Blocked shape x h made) where
    -- the last writes of a row that the step does not touch are unchanged
    stays : (y : Side) (row : ℕ → Bit) (by : List Event → List Made) (v : ℕ) → Spares row made → IsLast y row by (subhistory y h) v → IsLast y row by (subhistory y (h ++ events_of x made)) v
    stays y row by v s is = ⊎_elim
        (λ (same : y ≡ x). subst (λ (l : List Event). IsLast y row by l v) (sym (ap (λ (z : Side). subhistory z (h ++ events_of x made)) same ∙ (blocked.mine ∙ ap (λ (z : Side). subhistory z h ++ events_of x made) (sym same))))
        (stays_last y row by (subhistory y h) (events_of x made) v (spared x row made s) is))
        (λ (far : y ≡ other x). subst (λ (l : List Event). IsLast y row by l v) (sym (ap (λ (z : Side). subhistory z (h ++ events_of x made)) far ∙ (blocked.theirs ∙ ap (λ (z : Side). subhistory z h) (sym far)))) is)
        (either_side x y)

    close_stays : Spares (λ _. X) made → held X (h ++ events_of x made) ≡ held X h
    close_stays s = blocked.bits X ∙ spared_bits (λ _. X) made (λ b. held b h) s 0

  abbrev SparesAll : List Made → Type 0
  SparesAll made = (row : ℕ → Bit) → Spares row made

  -- after reads the words are unchanged
  loaded : (x : Side) (made : List Made) (h : List Event) (words : List ℕ) (place : ℕ) → SparesAll made → ShowsWords shape words h → Blocked shape x h made
      → ShowsWords shape (set words place (slice_index words place)) (h ++ events_of x made)
  loaded x made h words place s shows blocked = subst (λ (l : List ℕ). ShowsWords shape l (h ++ events_of x made)) (sym (set-same words place)) (record {
    idle = blocked.quiet.idle;
    count = λ y. stays x made h blocked y (row_bit y) (λ before. unary_over y before (slice_index words (count_place y))) (slice_index words (count_place y)) (s (row_bit y)) (shows.count y);
    small = shows.small;
    cell = λ j lt. stays x made h blocked P (Cell j) (λ before. word_write (width_of shape) j (slice_index words (cell_place j))) (slice_index words (cell_place j)) (s (Cell j)) (shows.cell j lt);
    fits = shows.fits;
    close = shows.close ∙ ap bits.value_word (sym (close_stays x made h blocked (s (λ _. X))));
  })

  -- what a store of a word does to another one, whose row it does not touch
  module _ (x : Side) (made : List Made) (h : List Event) (words : List ℕ) (place new : ℕ) (shows : ShowsWords shape words h) (blocked : Blocked shape x h made) where
    left_word : (other : ℕ) → other ≢ place → slice_index (set words place new) other ≡ slice_index words other
    left_word other ne = get_or-set_other words place other new 0 ne

    other_count : (y : Side) → count_place y ≢ place → Spares (row_bit y) made → IsLastCount y (subhistory y (h ++ events_of x made)) (slice_index (set words place new) (count_place y))
    other_count y ne s = subst (IsLastCount y (subhistory y (h ++ events_of x made))) (sym (left_word (count_place y) ne))
        (stays x made h blocked y (row_bit y) (λ before. unary_over y before (slice_index words (count_place y))) (slice_index words (count_place y)) s (shows.count y))

    other_small : (y : Side) → count_place y ≢ place → slice_index (set words place new) (count_place y) < modulus_of shape
    other_small y ne = subst (λ (n : ℕ). n < modulus_of shape) (sym (left_word (count_place y) ne)) (shows.small y)

    other_cell : (j : ℕ) → j < capacity_of shape → cell_place j ≢ place → Spares (Cell j) made → IsLastItem (width_of shape) j (subhistory P (h ++ events_of x made)) (slice_index (set words place new) (cell_place j))
    other_cell j lt ne s = subst (IsLastItem (width_of shape) j (subhistory P (h ++ events_of x made))) (sym (left_word (cell_place j) ne))
        (stays x made h blocked P (Cell j) (λ before. word_write (width_of shape) j (slice_index words (cell_place j))) (slice_index words (cell_place j)) s (shows.cell j lt))

    other_fits : (j : ℕ) → j < capacity_of shape → cell_place j ≢ place → slice_index (set words place new) (cell_place j) < 2 ^ width_of shape
    other_fits j lt ne = subst (λ (n : ℕ). n < 2 ^ width_of shape) (sym (left_word (cell_place j) ne)) (shows.fits j lt)

    other_close : 0 ≢ place → Spares (λ _. X) made → slice_index (set words place new) 0 ≡ bits.value_word (held X (h ++ events_of x made))
    other_close ne s = left_word 0 ne ∙ (shows.close ∙ ap bits.value_word (sym (close_stays x made h blocked s)))

  abbrev new_word : List ℕ → ℕ → ℕ → ℕ
  new_word words place new = slice_index (set words place new) place

  new_is : (words : List ℕ) (place new : ℕ) → length words ≡ words_of shape → place < words_of shape → new_word words place new ≡ new
  new_is words place new wide lt = get_or-set_same words place new 0 (subst (λ (n : ℕ). place < n) (sym wide) lt)

  -- ---- the places and rows of two words

  small_place : (x : Side) → (0 < count_place x) × (count_place x < 3)
  small_place x = grind arith

  far_places : (x : Side) → count_place (other x) ≢ count_place x
  far_places x = grind arith

  far_rows : (x : Side) (i k : ℕ) → same_bit (row_bit (other x) i) (row_bit x k) ≡ false
  far_rows x i k = grind arith

  cell_row : (x : Side) (j i k : ℕ) → same_bit (Cell j i) (row_bit x k) ≡ false
  cell_row x j i k = grind arith

  row_cell : (x : Side) (j i k : ℕ) → same_bit (row_bit x i) (Cell j k) ≡ false
  row_cell x j i k = grind arith

  close_row : (x : Side) (i k : ℕ) → same_bit X (row_bit x k) ≡ false
  close_row x i k = grind arith

  row_close : (x : Side) (i : ℕ) → same_bit (row_bit x i) X ≡ false
  row_close x i = grind arith

  far_cells : (j k i l : ℕ) → k ≢ j → same_bit (Cell k i) (Cell j l) ≡ false
  far_cells j k i l ne = grind (arith, nat_tests)

  -- ---- after a store of a count, of a cell, and of the close word

  counted : (x : Side) (v : ℕ) (old : ℕ → Bool) (h : List Event) (words : List ℕ) → v < modulus_of shape → ((i : ℕ) → value_left (subhistory x h) (row_bit x i) ≡ old i) → length words ≡ words_of shape → ShowsWords shape words h
      → Blocked shape x h (writes_in (row_bit x) (unary_phrase old v)) → ShowsWords shape (set words (count_place x) v) (h ++ events_of x (writes_in (row_bit x) (unary_phrase old v)))
  counted x v old h words lt left wide shows blocked = record {
    idle = blocked.quiet.idle;
    count = λ y. ⊎_elim
        (λ (same : y ≡ x). subst (λ (z : Side). IsLastCount z (subhistory z h') (slice_index words' (count_place z))) (sym same) mine)
        (λ (far : y ≡ other x). subst (λ (z : Side). IsLastCount z (subhistory z h') (slice_index words' (count_place z))) (sym far)
        (other_count x acts h words (count_place x) v shows blocked (other x) (far_places x) (spares_writes (row_bit (other x)) (row_bit x) (far_rows x) ws)))
        (either_side x y);
    small = λ y. ⊎_elim
        (λ (same : y ≡ x). subst (λ (z : Side). slice_index words' (count_place z) < modulus_of shape) (sym same) (subst (λ (n : ℕ). n < modulus_of shape) (sym now) lt))
        (λ (far : y ≡ other x). subst (λ (z : Side). slice_index words' (count_place z) < modulus_of shape) (sym far) (other_small x acts h words (count_place x) v shows blocked (other x) (far_places x)))
        (either_side x y);
    cell = λ j below. other_cell x acts h words (count_place x) v shows blocked j below (λ (e : cell_place j ≡ count_place x). omega (arith, e, (small_place x).1)) (spares_writes (Cell j) (row_bit x) (cell_row x j) ws);
    fits = λ j below. other_fits x acts h words (count_place x) v shows blocked j below (λ (e : cell_place j ≡ count_place x). omega (arith, e, (small_place x).1));
    close = other_close x acts h words (count_place x) v shows blocked (λ (e : 0 ≡ count_place x). omega (arith, e, (small_place x).0)) (spares_writes (λ _. X) (row_bit x) (close_row x) ws);
  }
    where
      ws : List RowWrite
      ws = unary_phrase old v

      acts : List Made
      acts = writes_in (row_bit x) (unary_phrase old v)

      h' : List Event
      h' = h ++ events_of x (writes_in (row_bit x) (unary_phrase old v))

      words' : List ℕ
      words' = set words (count_place x) v

      now : slice_index (set words (count_place x) v) (count_place x) ≡ v
      now = new_is words (count_place x) v wide (omega (arith, (small_place x).1))

      over : unary_over x (subhistory x h) v ≡ writes_in (row_bit x) (unary_phrase old v)
      over i = writes_in (row_bit x) (unary_phrase (λ (k : ℕ). left k i) v)

      mine : IsLastCount x (subhistory x (h ++ events_of x (writes_in (row_bit x) (unary_phrase old v)))) (slice_index (set words (count_place x) v) (count_place x))
      mine = subst (λ (z : List Event × ℕ). IsLastCount x z.0 z.1)
          (λ i. ((ap (λ (l : List Made). subhistory x h ++ events_of x l) over ∙ sym blocked.mine) i, sym now i))
          (inl (is_last_now x (row_bit x) (λ before. unary_over x before v) (subhistory x h)))

  stored : (j item : ℕ) (h : List Event) (words : List ℕ) → j < capacity_of shape → item < 2 ^ width_of shape → length words ≡ words_of shape → ShowsWords shape words h
      → Blocked shape P h (word_write (width_of shape) j item) → ShowsWords shape (set words (cell_place j) item) (h ++ events_of P (word_write (width_of shape) j item))
  stored j item h words lt fits wide shows blocked = record {
    idle = blocked.quiet.idle;
    count = λ y. other_count P acts h words (cell_place j) item shows blocked y (λ (e : count_place y ≡ cell_place j). omega (arith, e, (small_place y).1)) (spares_writes (row_bit y) (Cell j) (row_cell y j) ws);
    small = λ y. other_small P acts h words (cell_place j) item shows blocked y (λ (e : count_place y ≡ cell_place j). omega (arith, e, (small_place y).1));
    cell = λ k below. ⊎_elim
        (λ (same : k ≡ j). subst (λ (l : ℕ). IsLastItem (width_of shape) l (subhistory P h') (slice_index words' (cell_place l))) (sym same) mine)
        (λ (ne : k ≢ j). other_cell P acts h words (cell_place j) item shows blocked k below (λ (e : cell_place k ≡ cell_place j). ne (omega (arith, e))) (spares_writes (Cell k) (Cell j) (λ i l. far_cells j k i l ne) ws))
        (cases_eq k j);
    fits = λ k below. ⊎_elim
        (λ (same : k ≡ j). subst (λ (l : ℕ). slice_index words' (cell_place l) < 2 ^ width_of shape) (sym same) (subst (λ (n : ℕ). n < 2 ^ width_of shape) (sym now) fits))
        (λ (ne : k ≢ j). other_fits P acts h words (cell_place j) item shows blocked k below (λ (e : cell_place k ≡ cell_place j). ne (omega (arith, e))))
        (cases_eq k j);
    close = other_close P acts h words (cell_place j) item shows blocked (λ (e : 0 ≡ cell_place j). omega (arith, e)) (spares_writes (λ _. X) (Cell j) (λ i k. refl) ws);
  }
    where
      ws : List RowWrite
      ws = digit_writes item (width_of shape)

      acts : List Made
      acts = word_write (width_of shape) j item

      h' : List Event
      h' = h ++ events_of P (word_write (width_of shape) j item)

      words' : List ℕ
      words' = set words (cell_place j) item

      now : slice_index (set words (cell_place j) item) (cell_place j) ≡ item
      now = new_is words (cell_place j) item wide (omega (arith, lt))

      mine : IsLastItem (width_of shape) j (subhistory P (h ++ events_of P (word_write (width_of shape) j item))) (slice_index (set words (cell_place j) item) (cell_place j))
      mine = subst (λ (z : List Event × ℕ). IsLastItem (width_of shape) j z.0 z.1) (λ i. (sym blocked.mine i, sym now i))
          (inl (is_last_now P (Cell j) (λ before. word_write (width_of shape) j item) (subhistory P h)))

  closed : (h : List Event) (words : List ℕ) → length words ≡ words_of shape → ShowsWords shape words h → Blocked shape P h (Write X true ∷ []) → ShowsWords shape (set words 0 1) (h ++ events_of P (Write X true ∷ []))
  closed h words wide shows blocked = record {
    idle = blocked.quiet.idle;
    count = λ y. other_count P (Write X true ∷ []) h words 0 1 shows blocked y (λ (e : count_place y ≡ 0). omega (arith, e, (small_place y).0)) (row_close y, tt);
    small = λ y. other_small P (Write X true ∷ []) h words 0 1 shows blocked y (λ (e : count_place y ≡ 0). omega (arith, e, (small_place y).0));
    cell = λ k below. other_cell P (Write X true ∷ []) h words 0 1 shows blocked k below (λ (e : cell_place k ≡ 0). omega (arith, e)) ((λ i. refl), tt);
    fits = λ k below. other_fits P (Write X true ∷ []) h words 0 1 shows blocked k below (λ (e : cell_place k ≡ 0). omega (arith, e));
    close = new_is words 0 1 wide (omega arith) ∙ ap bits.value_word (sym (blocked.bits X));
  }

-- ---- reads of what the bits hold

abbrev pub Holds : (Bit → Bool) → List Made → Type 0
Holds bits [] = Unit {0}
Holds bits (Read b v ∷ made) = (v ≡ bits b) × Holds bits made
Holds bits (Write b v ∷ made) = ⊥

holds-append : (bits : Bit → Bool) (xs ys : List Made) → Holds bits xs → Holds bits ys → Holds bits (xs ++ ys)
holds-append bits [] ys a b = b
holds-append bits (Read c v ∷ xs) ys a b = (a.0, holds-append bits xs ys a.1 b)
holds-append bits (Write c v ∷ xs) ys a b = elim a [ ]

holds_answers : (bits : Bit → Bool) (made : List Made) → Holds bits made → Answers bits made
holds_answers bits [] a = tt
holds_answers bits (Read c v ∷ xs) a = (a.0, holds_answers bits xs a.1)
holds_answers bits (Write c v ∷ xs) a = elim a [ ]

holds_spares : (bits : Bit → Bool) (made : List Made) → Holds bits made → (row : ℕ → Bit) → Spares row made
holds_spares bits [] a row = tt
holds_spares bits (Read c v ∷ xs) a row = holds_spares bits xs a.1 row
holds_spares bits (Write c v ∷ xs) a row = elim a [ ]

zeros_hold : (bits : Bit → Bool) (row : ℕ → Bit) (n : ℕ) → ((i : ℕ) → i < n → bits (row i) ≡ false) → Holds bits (zero_reads row n)
zeros_hold bits row zero clear = tt
zeros_hold bits row (suc n) clear = holds-append bits (zero_reads row n) (Read (row n) false ∷ []) (zeros_hold bits row n (λ i lt. clear i (omega (arith, lt)))) (sym (clear n (omega arith)), tt)

scan_holds : (bits : Bit → Bool) (row : ℕ → Bit) (c : ℕ) → Lowest (λ i. bits (row i)) c → Holds bits (scan_phrase row c)
scan_holds bits row c is = holds-append bits (zero_reads row c) (Read (row c) true ∷ []) (zeros_hold bits row c is.clear) (sym is.set, tt)

digits_hold : (bits : Bit → Bool) (width j item n : ℕ) → n ≤ width → ((i : ℕ) → i < width → bits (Cell j i) ≡ digit i item) → Holds bits (digit_reads j item n)
digits_hold bits width j item zero le is = tt
digits_hold bits width j item (suc n) le is = holds-append bits (digit_reads j item n) (Read (Cell j n) (digit n item) ∷ []) (digits_hold bits width j item n (omega (arith, le)) is) (sym (is n le), tt)

writes_answer : (row : ℕ → Bit) (ws : List RowWrite) (bits : Bit → Bool) → Answers bits (writes_in row ws)
writes_answer row [] bits = tt
writes_answer row (w ∷ ws) bits = (tt, writes_answer row ws (wrote bits (Write (row w.bit) w.value)))

-- ---- the kinds of step of an end

module _ (shape : Shape) (x : Side) (slots id : ℕ) (me : Me (Unit {0}) View) (mine : may_step x me.0 ≡ true) (not_theirs : may_step (other x) me.0 ≡ false) where
  -- a load: reads of what the bits hold
  loads : (place : ℕ) (made : ℕ → List Made) (tells : ℕ → Type 0)
      → ((h : List Event) (words : List ℕ) → IsRing shape h → ShowsWords shape words h → Holds (λ b. held b h) (made (slice_index words place))
      × AllRight shape x (made (slice_index words place)) × Follows shape x (list_of x me.0 ++ events_of x (made (slice_index words place))) × tells (slice_index words place))
      → Allows (KeptWords shape) slots id me place (λ n. n) (AddedAll shape x made tells me)
  loads place made tells good = moves shape x place made tells (λ n. n) (λ n. n) slots id me mine not_theirs
      (λ h words ring list shows wide.
      let n : ℕ = slice_index words place in
      let g = good h words ring shows in
      record {
        right = g.1;
        answers = holds_answers (λ b. held b h) (made n) g.0;
        follow = g.2;
        tells = g.3;
        shows = loaded shape x (made n) h words place (holds_spares (λ b. held b h) (made n) g.0) shows;
      })

  -- a load of the other side's count
  pub loads_count : ((c : ℕ) → c < modulus_of shape → Follows shape x (list_of x me.0 ++ events_of x (scan_phrase (row_read_by x) c)))
      → Allows (KeptWords shape) slots id me (their_place x) (λ n. n) (AddedAll shape x (scan_phrase (row_read_by x)) (IsBelow (modulus_of shape)) me)
  loads_count follow = loads (their_place x) (scan_phrase (row_read_by x)) (IsBelow (modulus_of shape))
      (λ h words ring shows.
      let y : Side = other x in
      let c : ℕ = slice_index words (count_place y) in
      let lt : c < modulus_of shape = shows.small y in
      let low : Lowest (λ i. value_left (subhistory y h) (row_bit y i)) c = count_shows shape y (subhistory y h) c lt (shows.count y) in
      let held_is : ((i : ℕ) → held (row_bit y i) h ≡ value_left (subhistory y h) (row_bit y i)) = (λ i. held_left shape (row_bit y i) h ring.run.lawful (shows.idle (writer (row_bit y i))) ∙ ap (λ (z : Side). value_left (subhistory z h) (row_bit y i)) (row_writer y i)) in
      (scan_holds (λ b. held b h) (row_bit y) c (record { set = held_is c ∙ low.set; clear = λ i below. held_is i ∙ low.clear i below }), scan_right shape x c lt, follow c lt, lt))

  -- a store of the side's own count
  pub stores_count : (new : ℕ) → new < modulus_of shape → Follows shape x (list_of x me.0 ++ events_of x (unary_over x (list_of x me.0) new))
      → Allows (KeptWords shape) slots id me (count_place x) (λ _. new) (λ _. AddedAll shape x (λ _. unary_over x (list_of x me.0) new) TellsNothing me new)
  stores_count new lt follow = moves shape x (count_place x) (λ _. unary_over x (list_of x me.0) new) TellsNothing (λ _. new) (λ _. new) slots id me mine not_theirs
      (λ h words ring list shows wide.
      let old : ℕ → Bool = λ i. value_left (list_of x me.0) (row_bit x i) in
      record {
        right = unary_right shape x old new lt;
        answers = writes_answer (row_bit x) (unary_phrase old new) (λ b. held b h);
        follow = follow;
        tells = tt;
        shows = counted shape x new old h words lt (λ i. ap (λ (l : List Event). value_left l (row_bit x i)) (sym list)) wide shows;
      })

module _ (shape : Shape) (slots id : ℕ) (me : Me (Unit {0}) View) where
  -- a store of a cell
  pub stores_cell : me.0.puts ≡ true → me.0.takes ≡ false → (j item : ℕ) → j < capacity_of shape → item < 2 ^ width_of shape → Follows shape P (me.0.put ++ events_of P (word_write (width_of shape) j item))
      → Allows (KeptWords shape) slots id me (cell_place j) (λ _. item) (λ _. AddedAll shape P (λ _. word_write (width_of shape) j item) TellsNothing me item)
  stores_cell mine not_theirs j item lt fits follow = moves shape P (cell_place j) (λ _. word_write (width_of shape) j item) TellsNothing (λ _. item) (λ _. item) slots id me mine not_theirs
      (λ h words ring list shows wide. record {
        right = word_write_right shape j item lt;
        answers = writes_answer (Cell j) (digit_writes item (width_of shape)) (λ b. held b h);
        follow = follow;
        tells = tt;
        shows = stored shape j item h words lt fits wide shows;
      })

  -- a store of the close word
  pub stores_close : me.0.puts ≡ true → me.0.takes ≡ false → Follows shape P (me.0.put ++ events_of P (Write X true ∷ []))
      → Allows (KeptWords shape) slots id me 0 (λ _. 1) (λ _. AddedAll shape P (λ _. Write X true ∷ []) TellsNothing me 1)
  stores_close mine not_theirs follow = moves shape P 0 (λ _. Write X true ∷ []) TellsNothing (λ _. 1) (λ _. 1) slots id me mine not_theirs
      (λ h words ring list shows wide. record {
        right = ((refl, refl), tt);
        answers = (tt, tt);
        follow = follow;
        tells = tt;
        shows = closed shape h words wide shows;
      })

  -- a load of a cell
  pub loads_cell : me.0.takes ≡ true → me.0.puts ≡ false → (j : ℕ) → j < capacity_of shape → ((item : ℕ) → item < 2 ^ width_of shape → Follows shape C (me.0.taken ++ events_of C (word_read (width_of shape) j item)))
      → Allows (KeptWords shape) slots id me (cell_place j) (λ n. n) (AddedAll shape C (word_read (width_of shape) j) (IsBelow (2 ^ width_of shape)) me)
  loads_cell mine not_theirs j lt follow = loads shape C slots id me mine not_theirs (cell_place j) (word_read (width_of shape) j) (IsBelow (2 ^ width_of shape))
      (λ h words ring shows.
      let item : ℕ = slice_index words (cell_place j) in
      let fits : item < 2 ^ width_of shape = shows.fits j lt in (
        digits_hold (λ b. held b h) (width_of shape) j item (width_of shape) (omega arith)
            (λ i below. held_left shape (Cell j i) h ring.run.lawful (shows.idle P) ∙ item_shows (width_of shape) j (subhistory P h) item (shows.cell j lt) i below),
        reads_right shape j item (width_of shape) lt (omega arith),
        follow item fits,
        fits,
      ))

  -- a load of the close word
  pub loads_close : me.0.takes ≡ true → me.0.puts ≡ false → ((v : Bool) → Follows shape C (me.0.taken ++ events_of C (Read X v ∷ [])))
      → Allows (KeptWords shape) slots id me 0 (λ n. n) (AddedAll shape C (λ n. Read X (n == 1) ∷ []) TellsNothing me)
  loads_close mine not_theirs follow = loads shape C slots id me mine not_theirs 0 (λ n. Read X (n == 1) ∷ []) TellsNothing
      (λ h words ring shows. ((told (held X h) (slice_index words 0) shows.close, tt), ((refl, refl), tt), follow _, tt))
    where
      told : (v : Bool) (n : ℕ) → n ≡ bits.value_word v → (n == 1) ≡ v
      told true n e = ap (λ (k : ℕ). k == 1) e
      told false n e = ap (λ (k : ℕ). k == 1) e

-- ---- the ring before any step

count_below : (shape : Shape) (x : Side) → count_place x < words_of shape
count_below shape x = grind arith

shows_first : (shape : Shape) → ShowsWords shape (first_counts shape) []
shows_first shape = grind (arith, count_below, get_or-replicate, pow_pos)

pub opens : (shape : Shape) → KeptWords shape (opening (first_counts shape) [] (joint [] [] [] []))
opens shape = opens_so words_of ShowsWords shape (first_counts shape) (length-replicate (words_of shape) 0) (shows_first shape)
