-- What is kept of a history, after one more event.
use Rattle.std.proofs.Common.{◌≡◌, ◌⊎◌, ◌↔◌, inl, inr, ℕ, suc, ◌+◌, ◌-◌, ◌≤◌, ◌<◌, Bool, true, false, Option, Some, None, List, [], ◌∷◌, ◌++◌, length, drop, refl, ap, sym, subst, ◌∙◌, arith}
use Rattle.std.specs.Prelude.{slice_get, option_map, if◌then◌else◌}
use Rattle.std.proofs.lemmas.List.{drop-append-le}
use Rattle.register_calls.proofs.Common.{eqb_tells, none-some, same_Some, slice_get_within, Register, RegisterEvent, WriteBegins, WriteEnds, ReadBegins, ReadEnds, OpenRead, ReaderState, FoundWrites}
use Rattle.register_calls.proofs.Common.{IsValue, started, finished, written_values, has_read_open, before_read, IsOf, IsSafe, IsRegular, sees, Together, EachAlone, IsFirstPlace, IsGreater, IsRaised}
use Rattle.register_calls.proofs.Common.{still}
use Rattle.register_calls.specs.Audits.{MovesReader, FindsWrites, reader_at, KeepsRead, KeepsHistory, IsToldBy, IsOldest, IsOldestKept, lows, own_lows, own_floors}
use Rattle.register_calls.proofs.ReadLemmas.{before_read-begin, before_read-other, read_open-begin, read_open-begin_other, read_open-end, read_open-end_other, length-written, finished-before_read}
use Rattle.register_calls.proofs.Keeping.{keeps_nothing, scope_write, scope_read, scope_got, scope_same}
use Rattle.register_calls.proofs.Sets.{drop_twice, get-drop}
use Rattle.register_calls.proofs.Readers.{lows_others, own_lows_others}

pub turn_of : (b : Bool) (start stop : ℕ) → start ≡ (if b then suc stop else stop) → stop ≤ start
turn_of b start stop h1 = grind arith

pub told_same : (t : Bool) (P Q : Type 0) → (P → Q) → (Q → P) → IsToldBy t P → IsToldBy t Q
told_same t P Q h1 h2 h3 = grind arith

-- what is kept about a reader, if its read is unchanged
moved : (j : ℕ) (h g : List RegisterEvent) (o : Option OpenRead) → has_read_open j g ≡ has_read_open j h → before_read j g ≡ before_read j h → KeepsRead j h o → KeepsRead j g o
moved j h g o h1 h2 h3 = grind arith

module _ (r : Register) (h : List RegisterEvent) (kept : List ℕ) (base begun : ℕ) where
  -- as many have ended as the code says
  pub ended_is :
      (writing : Bool) (readers : List ReaderState) (floor : ℕ) (safe regular each all : Bool) → KeepsHistory r h kept base begun writing readers floor safe regular each all →
      (if writing then begun - 1 else begun) ≡ finished h
  ended_is writing readers floor safe regular each all h1 = grind arith

  module _ (readers : List ReaderState) (floor : ℕ) (safe regular each all : Bool) where
    -- a write begins
    pub write_begins :
        (v : ℕ) → IsValue r v → KeepsHistory r h kept base begun false readers floor safe regular each all →
        KeepsHistory r (WriteBegins v ∷ h) (kept ++ v ∷ []) base (suc begun) true readers floor safe regular each all
    write_begins v value k = grind (arith, drop-append-le, length-written, scope_write)

    -- it ends
    pub write_ends : KeepsHistory r h kept base begun true readers floor safe regular each all → KeepsHistory r (WriteEnds ∷ h) kept base begun false readers floor safe regular each all
    write_ends k = grind arith

    -- a read begins
    pub read_begins :
        (writing : Bool) (ys : List ReaderState) (i : ℕ) (own : ℕ) (read : OpenRead) → (reader_at readers i).reading ≡ None → own ≡ (reader_at readers i).own →
        MovesReader readers ys i (record { own = own; reading = Some read }) → read.before ≡ (if writing then begun - 1 else begun) → IsGreater read.before floor read.low →
        IsGreater read.before own read.own_low → KeepsHistory r h kept base begun writing readers floor safe regular each all →
        KeepsHistory r (ReadBegins i ∷ h) kept base begun writing ys floor safe regular each all
    read_begins writing ys i own read free mine moves before low own_low k = record {
      well_formed = (k.well_formed, tt, subst (λ (o : Option OpenRead). KeepsRead i h o) free (k.reads i));
      count = k.count;
      turn = k.turn;
      low = k.low;
      values = k.values;
      reads = reads;
      needed = needed;
      is_safe = k.is_safe;
      is_regular = k.is_regular;
      order_of_each = scope_read EachAlone r.first each i read.own_low h (own_floors readers) (own_floors ys) (own_lows readers) (own_lows ys) floors
          (ap (λ (s : ReaderState). option_map (λ (z : OpenRead). z.own_low) s.reading) moves.here) (own_lows_others readers ys i (record { own = own; reading = Some read }) moves)
          (subst (λ (n : ℕ). IsGreater n (own_floors readers i) read.own_low) began (subst (λ (n : ℕ). IsGreater read.before n read.own_low) mine own_low)) k.order_of_each;
      order_of_all = scope_read Together r.first all i read.low h (λ j. floor) (λ j. floor) (lows readers) (lows ys) (λ j. refl)
          (ap (λ (s : ReaderState). option_map (λ (z : OpenRead). z.low) s.reading) moves.here) (lows_others readers ys i (record { own = own; reading = Some read }) moves)
          (subst (λ (n : ℕ). IsGreater n floor read.low) began low) k.order_of_all;
    }
      where
        began : read.before ≡ finished h
        began = before ∙ ended_is writing readers floor safe regular each all k

        floors : (j : ℕ) → own_floors ys j ≡ own_floors readers j
        floors j = elim (eqb_tells j i) [
          | inl is ↦
              subst (λ (z : ℕ). own_floors ys z ≡ own_floors readers z) (sym is.1) (ap (λ (s : ReaderState). s.own) moves.here ∙ mine)
          | inr apart ↦ ap (λ (s : ReaderState). s.own) (moves.others j apart.1)
        ]

        this : KeepsRead i (ReadBegins i ∷ h) (reader_at ys i).reading
        this = subst (λ (s : ReaderState). KeepsRead i (ReadBegins i ∷ h) s.reading) (sym moves.here) (read_open-begin i h, began ∙ ap finished (sym (before_read-begin i h)), low.left, own_low.left)

        reads : (j : ℕ) → KeepsRead j (ReadBegins i ∷ h) (reader_at ys j).reading
        reads j = elim (eqb_tells j i) [
          | inl is ↦ subst (λ (z : ℕ). KeepsRead z (ReadBegins i ∷ h) (reader_at ys z).reading) (sym is.1) this
          | inr apart ↦
              subst (λ (s : ReaderState). KeepsRead j (ReadBegins i ∷ h) s.reading) (sym (moves.others j apart.1))
              (moved j h (ReadBegins i ∷ h) (reader_at readers j).reading (read_open-begin_other i j h apart.1) (before_read-other i j h apart.1) (k.reads j))
        ]

        needed : (j : ℕ) (z : OpenRead) → (reader_at ys j).reading ≡ Some z → base ≤ z.before
        needed j z at = elim (eqb_tells j i) [
          | inl is ↦
              let same : read ≡ z = same_Some read z (ap (λ (s : ReaderState). s.reading) (sym moves.here) ∙ subst (λ (m : ℕ). (reader_at ys m).reading ≡ Some z) is.1 at) in
              subst (λ (o : OpenRead). base ≤ o.before) same (let p = k.low in omega (arith, p, began))
          | inr apart ↦ k.needed j z (ap (λ (s : ReaderState). s.reading) (sym (moves.others j apart.1)) ∙ at)
        ]

held_told : (held : Bool) (P : Type 0) → held ≡ true → IsToldBy held P → P
held_told held P h1 h2 = grind arith

module _ (first : ℕ) (h : List RegisterEvent) (i v before begun : ℕ) where
  -- a read that no write overlaps, and that may be of a write, is of the last one
  last_one :
      (found : Option ℕ) → before ≡ finished (before_read i h) → begun ≡ started h → before ≤ begun → IsFirstPlace (written_values first h) before v found →
      (before < begun) ⊎ (still true found ≡ true) → finished (before_read i h) ≡ started h → IsOf first (before_read i h) h v (started h)
  last_one found h1 h2 h3 h4 h5 h6 = grind (arith, length-written, slice_get_within)

-- whether a history with a read is safe
pub safe_got :
    (r : Register) (h : List RegisterEvent) (i v before begun : ℕ) (found : Option ℕ) (held now : Bool) → before ≡ finished (before_read i h) → begun ≡ started h → before ≤ begun →
    IsFirstPlace (written_values r.first h) before v found → (now ≡ true) ↔ ((held ≡ true) × IsValue r v × ((before < begun) ⊎ (still true found ≡ true))) →
    IsToldBy held (IsSafe r h) → IsToldBy now (IsSafe r (ReadEnds i v ∷ h))
safe_got r h i v before begun found held now h1 h2 h3 h4 h5 h6 = grind (arith, held_told, last_one)

-- whether it is regular
pub regular_got :
    (r : Register) (h : List RegisterEvent) (i v before : ℕ) (found : Option ℕ) (held : Bool) → before ≡ finished (before_read i h) →
    IsFirstPlace (written_values r.first h) before v found → IsToldBy held (IsRegular r.first h) → IsToldBy (still held found) (IsRegular r.first (ReadEnds i v ∷ h))
regular_got r h i v before found held h1 h2 h3 = grind (arith, length-written, slice_get_within)

module _ (r : Register) (h : List RegisterEvent) (kept : List ℕ) (base begun : ℕ) (writing : Bool) (readers : List ReaderState) (floor : ℕ) (safe regular each all : Bool) where
  -- a read ends
  pub read_ends :
      (ys : List ReaderState) (i v top own : ℕ) (read : OpenRead) (of_any of_own of_all : Option ℕ) (now : Bool) → (reader_at readers i).reading ≡ Some read →
      MovesReader readers ys i (record { own = own; reading = None }) → IsFirstPlace (written_values r.first h) read.before v of_any → IsFirstPlace (written_values r.first h) read.own_low v of_own →
      IsFirstPlace (written_values r.first h) read.low v of_all → IsRaised (reader_at readers i).own of_own own → IsRaised floor of_all top →
      (now ≡ true) ↔ ((safe ≡ true) × IsValue r v × ((read.before < begun) ⊎ (still true of_any ≡ true))) →
      KeepsHistory r h kept base begun writing readers floor safe regular each all →
      KeepsHistory r (ReadEnds i v ∷ h) kept base begun writing ys top now (still regular of_any) (still each of_own) (still all of_all)
  read_ends ys i v top own read of_any of_own of_all now at moves any_at own_at all_at own_raised all_raised is k = record {
    well_formed = (k.well_formed, tt, mine.0);
    count = k.count;
    turn = k.turn;
    low = k.low;
    values = k.values;
    reads = reads;
    needed = needed;
    is_safe = safe_got r h i v read.before begun of_any safe now mine.1 k.count earlier any_at is k.is_safe;
    is_regular = regular_got r h i v read.before of_any regular mine.1 any_at k.is_regular;
    order_of_each = scope_got EachAlone r.first i v read.own_low h (own_floors readers) (own_lows readers) (ap (λ (o : Option OpenRead). option_map (λ (z : OpenRead). z.own_low) o) at)
        (own_floors ys) (own_lows ys) (let p = mine.3 in let q = mine.1 in omega (arith, p, q))
        (ap (λ (s : ReaderState). option_map (λ (z : OpenRead). z.own_low) s.reading) moves.here) (own_lows_others readers ys i (record { own = own; reading = None }) moves)
        unseen each of_own own_at seen k.order_of_each;
    order_of_all = scope_got Together r.first i v read.low h (λ j. floor) (lows readers) (ap (λ (o : Option OpenRead). option_map (λ (z : OpenRead). z.low) o) at)
        (λ j. top) (lows ys) (let p = mine.2 in let q = mine.1 in omega (arith, p, q))
        (ap (λ (s : ReaderState). option_map (λ (z : OpenRead). z.low) s.reading) moves.here) (lows_others readers ys i (record { own = own; reading = None }) moves)
        (λ j never. absurd cc) all of_all all_at (λ j always. all_raised) k.order_of_all;
  }
    where
      mine : KeepsRead i h (Some read)
      mine = subst (λ (o : Option OpenRead). KeepsRead i h o) at (k.reads i)

      earlier : read.before ≤ begun
      earlier = (let p = mine.1 in let q = k.count in let t = turn_of writing (started h) (finished h) k.turn in let e = finished-before_read i h in omega (arith, p, q, t, e))

      unseen : (j : ℕ) → sees EachAlone j i ≡ false → own_floors ys j ≡ own_floors readers j
      unseen j never = elim (eqb_tells j i) [
        | inl is ↦ (let same : true ≡ false = sym is.0 ∙ never in absurd cc)
        | inr apart ↦ ap (λ (s : ReaderState). s.own) (moves.others j apart.1)
      ]

      seen : (j : ℕ) → sees EachAlone j i ≡ true → IsRaised (own_floors readers j) of_own (own_floors ys j)
      seen j always = elim (eqb_tells j i) [
        | inl is ↦
            subst (λ (z : ℕ). IsRaised (own_floors readers z) of_own (own_floors ys z)) (sym is.1)
            (subst (λ (s : ReaderState). IsRaised (own_floors readers i) of_own s.own) (sym moves.here) own_raised)
        | inr apart ↦ (let wrong : false ≡ true = sym apart.0 ∙ always in absurd cc)
      ]

      this : KeepsRead i (ReadEnds i v ∷ h) (reader_at ys i).reading
      this = subst (λ (s : ReaderState). KeepsRead i (ReadEnds i v ∷ h) s.reading) (sym moves.here) (read_open-end i v h)

      reads : (j : ℕ) → KeepsRead j (ReadEnds i v ∷ h) (reader_at ys j).reading
      reads j = elim (eqb_tells j i) [
        | inl is ↦ subst (λ (z : ℕ). KeepsRead z (ReadEnds i v ∷ h) (reader_at ys z).reading) (sym is.1) this
        | inr apart ↦
            subst (λ (s : ReaderState). KeepsRead j (ReadEnds i v ∷ h) s.reading) (sym (moves.others j apart.1))
            (moved j h (ReadEnds i v ∷ h) (reader_at readers j).reading (read_open-end_other i j v h apart.1) refl (k.reads j))
      ]

      needed : (j : ℕ) (z : OpenRead) → (reader_at ys j).reading ≡ Some z → base ≤ z.before
      needed j z at = elim (eqb_tells j i) [
        | inl is ↦ absurd (none-some z (ap (λ (s : ReaderState). s.reading) (sym moves.here) ∙ subst (λ (m : ℕ). (reader_at ys m).reading ≡ Some z) is.1 at))
        | inr apart ↦ k.needed j z (ap (λ (s : ReaderState). s.reading) (sym (moves.others j apart.1)) ∙ at)
      ]

  -- what is kept about the reads under way determines the oldest write that one can be of
  pub oldest_of : (ended number : ℕ) → ended ≡ finished h → IsOldestKept ended readers number → KeepsHistory r h kept base begun writing readers floor safe regular each all → IsOldest h number
  oldest_of ended number is oldest k = record {
    ended = (let p = oldest.within in omega (arith, p, is));
    each = each_of;
    some = some_of oldest.some;
  }
    where
      each_by : (i : ℕ) (o : Option OpenRead) → (reader_at readers i).reading ≡ o → KeepsRead i h o → has_read_open i h ≡ true → number ≤ finished (before_read i h)
      each_by i None at keeps open_now = (let wrong : false ≡ true = sym keeps ∙ open_now in absurd cc)
      each_by i (Some read) at keeps open_now = (let p = oldest.each i read at in let q = keeps.1 in omega (arith, p, q))

      each_of : (i : ℕ) → has_read_open i h ≡ true → number ≤ finished (before_read i h)
      each_of i open_now = each_by i (reader_at readers i).reading refl (k.reads i) open_now

      some_of :
          (number ≡ ended) ⊎ ((i : ℕ) × (read : OpenRead) × ((reader_at readers i).reading ≡ Some read) × (number ≡ read.before)) →
          (number ≡ finished h) ⊎ ((i : ℕ) × (has_read_open i h ≡ true) × (number ≡ finished (before_read i h)))
      some_of (inl same) = inl (same ∙ is)
      some_of (inr (i, read, at, same)) =
          let mine : KeepsRead i h (Some read) = subst (λ (o : Option OpenRead). KeepsRead i h o) at (k.reads i) in
          inr (i, mine.0, same ∙ mine.1)

  -- the writes before that one are forgotten
  pub forgets :
      (less : List ℕ) (number : ℕ) → base ≤ number → less ≡ drop (number - base) kept → IsOldest h number → KeepsHistory r h kept base begun writing readers floor safe regular each all →
      KeepsHistory r h less number begun writing readers floor safe regular each all
  forgets less number up is oldest k = grind (arith, drop_twice)

  -- the same readers, in a list that may be longer
  pub keeps_same :
      (ys : List ReaderState) → ((j : ℕ) → reader_at ys j ≡ reader_at readers j) → KeepsHistory r h kept base begun writing readers floor safe regular each all →
      KeepsHistory r h kept base begun writing ys floor safe regular each all
  keeps_same ys same k = grind (arith, scope_same)

-- before any event
pub begins : (r : Register) (kept : List ℕ) (readers : List ReaderState) → IsValue r r.first → kept ≡ r.first ∷ [] → readers ≡ [] → KeepsHistory r [] kept 0 0 false readers 0 true true true true
begins r kept readers value is none = grind (arith, keeps_nothing, keeps_same, none-some)

-- the first place among the writes that are kept, by the number of the write
pub first_of :
    (written kept : List ℕ) (base from v : ℕ) (found : Option ℕ) → kept ≡ drop base written → base ≤ from → IsFirstPlace kept (from - base) v found → IsFirstPlace written from v (option_map (λ (k : ℕ). base + k) found)
first_of written kept base from v None is low none = λ n ge at.
    let e : n ≡ base + (n - base) = omega (arith, ge, low) in
    none (n - base) (omega (arith, ge, low)) (ap (λ (xs : List ℕ). slice_get xs (n - base)) is ∙ get-drop base (n - base) written ∙ subst (λ (m : ℕ). slice_get written m ≡ Some v) e at)
first_of written kept base from v (Some k) is low least = (
  (let p = least.0 in omega (arith, p, low)),
  sym (get-drop base k written) ∙ ap (λ (xs : List ℕ). slice_get xs k) (sym is) ∙ least.1,
  λ n ge lt at.
      let e : n ≡ base + (n - base) = omega (arith, ge, low) in
      least.2 (n - base) (omega (arith, ge, low)) (omega (arith, lt, ge, low))
      (ap (λ (xs : List ℕ). slice_get xs (n - base)) is ∙ get-drop base (n - base) written ∙ subst (λ (m : ℕ). slice_get written m ≡ Some v) e at),
)

module _ (r : Register) (h : List RegisterEvent) (kept : List ℕ) (base begun : ℕ) (writing : Bool) (readers : List ReaderState) (floor : ℕ) (safe regular each all : Bool) where
  -- none that is kept is forgotten too early
  pub oldest_up : (number : ℕ) → IsOldestKept (if writing then begun - 1 else begun) readers number → KeepsHistory r h kept base begun writing readers floor safe regular each all → base ≤ number
  oldest_up number oldest k = grind arith

  -- a write begins, by what is known about the numbers
  pub write_begins_as :
      (v : ℕ) (more : List ℕ) (next : ℕ) → IsValue r v → writing ≡ false → next ≡ suc begun → more ≡ kept ++ v ∷ [] → KeepsHistory r h kept base begun writing readers floor safe regular each all →
      KeepsHistory r (WriteBegins v ∷ h) more base next true readers floor safe regular each all
  write_begins_as v more next value idle up is k =
      let now : KeepsHistory r h kept base begun false readers floor safe regular each all = subst (λ (w : Bool). KeepsHistory r h kept base begun w readers floor safe regular each all) idle k in
      let then_ = write_begins r h kept base begun readers floor safe regular each all v value now in
      subst (λ (xs : List ℕ). KeepsHistory r (WriteBegins v ∷ h) xs base next true readers floor safe regular each all) (sym is)
      (subst (λ (n : ℕ). KeepsHistory r (WriteBegins v ∷ h) (kept ++ v ∷ []) base n true readers floor safe regular each all) (sym up) then_)

-- the first writes, of all that have begun, that a read under way may be of if it ends with this value
pub record FirstWrites (first : ℕ) (h : List RegisterEvent) (i v base : ℕ) (found : FoundWrites) : Type 0 where
  pub is_open : has_read_open i h ≡ true
  pub began : found.read.before ≡ finished (before_read i h)
  pub kept : base ≤ found.read.before
  pub low : found.read.before ≤ found.read.low
  pub own_low : found.read.before ≤ found.read.own_low
  pub any : IsFirstPlace (written_values first h) found.read.before v found.of_any
  pub own : IsFirstPlace (written_values first h) found.read.own_low v found.of_own
  pub all : IsFirstPlace (written_values first h) found.read.low v found.of_all

module _ (r : Register) (h : List RegisterEvent) (kept : List ℕ) (base begun : ℕ) (writing : Bool) (readers : List ReaderState) (floor : ℕ) (safe regular each all : Bool) where
  -- what is found among the writes that are kept is the first of all
  pub first_writes :
      (i v : ℕ) (found : FoundWrites) → (reader_at readers i).reading ≡ Some found.read → FindsWrites kept base begun v found →
      KeepsHistory r h kept base begun writing readers floor safe regular each all → FirstWrites r.first h i v base found
  first_writes i v found at finds k = grind (arith, length, length-written)

  -- a read ends, by what was found among the writes that are kept
  pub read_ends_as :
      (ys : List ReaderState) (i v top own : ℕ) (found : FoundWrites) (safe' regular' each' all' : Bool) → (reader_at readers i).reading ≡ Some found.read →
      MovesReader readers ys i (record { own = own; reading = None }) → FindsWrites kept base begun v found → IsRaised (reader_at readers i).own found.of_own own → IsRaised floor found.of_all top →
      (safe' ≡ true) ↔ ((safe ≡ true) × IsValue r v × ((found.read.before < begun) ⊎ (still true found.of_any ≡ true))) →
      regular' ≡ still regular found.of_any → each' ≡ still each found.of_own → all' ≡ still all found.of_all →
      KeepsHistory r h kept base begun writing readers floor safe regular each all →
      KeepsHistory r (ReadEnds i v ∷ h) kept base begun writing ys top safe' regular' each' all'
  read_ends_as ys i v top own found safe' regular' each' all' at moves finds own_raised all_raised is r_is e_is a_is k =
      let firsts = first_writes i v found at finds k in
      let after = read_ends r h kept base begun writing readers floor safe regular each all ys i v top own found.read found.of_any found.of_own found.of_all safe' at moves
      firsts.any firsts.own firsts.all own_raised all_raised is k in
      subst (λ (t : Bool). KeepsHistory r (ReadEnds i v ∷ h) kept base begun writing ys top safe' t each' all') (sym r_is)
      (subst (λ (t : Bool). KeepsHistory r (ReadEnds i v ∷ h) kept base begun writing ys top safe' (still regular found.of_any) t all') (sym e_is)
      (subst (λ (t : Bool). KeepsHistory r (ReadEnds i v ∷ h) kept base begun writing ys top safe' (still regular found.of_any) (still each found.of_own) t) (sym a_is) after))
