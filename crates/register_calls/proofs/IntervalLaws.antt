-- A well-formed history is safe, or regular, exactly when it is so by intervals.
use Rattle.std.proofs.Common.{◌≢◌, inl, inr, ℕ, ◌≤◌, ◌<◌, List, [], ◌∷◌, length, arith}
use Rattle.register_calls.proofs.Common.{none-some, Register, RegisterEvent, WriteBegins, WriteEnds, ReadBegins, ReadEnds, IsValue, started, before_read, IsWellFormed, IsSafe, IsRegular}
use Rattle.register_calls.specs.Intervals.{IsReadFrom, MayBeOf, IsSafeByIntervals, IsRegularByIntervals, SafeIsByIntervals, RegularIsByIntervals}
use Rattle.register_calls.proofs.Places.{placed_event-within, placed_event-cases, code}
use Rattle.register_calls.proofs.Beginnings.{before_read-beginning, length-beginning, reading_began, read_there, read_still, read_before, last_read, of_last}
use Rattle.register_calls.proofs.ByIntervals.{IsQuiet, of_places, of_numbers, quiet_places, quiet_numbers, of_quiet, may_more, may_less, quiet_less, quiet_more}

module _ (r : Register) where
  -- what a regular history implies about a read
  abbrev IsOfSome : List RegisterEvent → (start stop v : ℕ) → Type 0
  IsOfSome h start stop v = (of : ℕ) × MayBeOf r.first h start stop v of

  -- a read that ended before the last event
  regular_early : (e : RegisterEvent) (b : List RegisterEvent) (i start stop v : ℕ) → stop < length b → IsRegularByIntervals r.first b → IsReadFrom (e ∷ b) i start stop v → IsOfSome (e ∷ b) start stop v
  regular_early e b i start stop v early all is =
      let (k, may) = all i start stop v (read_before i start stop v e b early is) in
      (k, may_more e b r.first start stop v k (let l = is.later in omega (arith, l, early)) (omega (arith, early)) may)

  -- the last event ends no read
  regular_other : (e : RegisterEvent) (b : List RegisterEvent) → ((i v : ℕ) → e ≢ ReadEnds i v) → IsRegularByIntervals r.first b → IsRegularByIntervals r.first (e ∷ b)
  regular_other e b other all i start stop v is = elim (placed_event-cases e b stop (ReadEnds i v) is.ends) [
    | inl here ↦ absurd (other i v here.1)
    | inr early ↦ regular_early e b i start stop v early.0 all is
  ]

  regular_less : (e : RegisterEvent) (b : List RegisterEvent) → IsRegularByIntervals r.first (e ∷ b) → IsRegularByIntervals r.first b
  regular_less e b all i start stop v is =
      let (k, may) = all i start stop v (read_still i start stop v e b is) in
      let within = placed_event-within b stop (ReadEnds i v) is.ends in
      (k, may_less e b r.first start stop v k (let l = is.later in omega (arith, l, within)) (omega (arith, within)) may)

  regular_there : (h : List RegisterEvent) → IsWellFormed r h → IsRegular r.first h → IsRegularByIntervals r.first h
  regular_there [] formed has = λ i start stop v is. absurd (none-some (ReadEnds i v) is.ends)
  regular_there (WriteBegins v ∷ b) formed has = regular_other (WriteBegins v) b (λ i u k. cc) (regular_there b formed.0 has)
  regular_there (WriteEnds ∷ b) formed has = regular_other WriteEnds b (λ i u k. cc) (regular_there b formed.0 has)
  regular_there (ReadBegins j ∷ b) formed has = regular_other (ReadBegins j) b (λ i u k. cc) (regular_there b formed.0 has)
  regular_there (ReadEnds j u ∷ b) formed has = λ i start stop v is. elim (placed_event-cases (ReadEnds j u) b stop (ReadEnds i v) is.ends) [
    | inl here ↦
        let s = before_read j b in
        let part = before_read-beginning j b in
        let k = code b has.1.0 in
        let may : MayBeOf r.first b (length s) (length b) u k = of_places r.first r s b part formed.0 u has.1.0 has.1.1 in
        let more : MayBeOf r.first (ReadEnds j u ∷ b) (length s) (length b) u k = may_more (ReadEnds j u) b r.first (length s) (length b) u k (length-beginning s b part) (omega arith) may in
        of_last b j u i start stop v (λ x y z. IsOfSome (ReadEnds j u ∷ b) x y z) (last_read b j u i start stop v formed.2 here.0 here.1 is) (k, more)
    | inr early ↦ regular_early (ReadEnds j u) b i start stop v early.0 (regular_there b formed.0 has.0) is
  ]

  regular_back : (h : List RegisterEvent) → IsWellFormed r h → IsRegularByIntervals r.first h → IsRegular r.first h
  regular_back [] formed all = tt
  regular_back (WriteBegins v ∷ b) formed all = regular_back b formed.0 (regular_less (WriteBegins v) b all)
  regular_back (WriteEnds ∷ b) formed all = regular_back b formed.0 (regular_less WriteEnds b all)
  regular_back (ReadBegins j ∷ b) formed all = regular_back b formed.0 (regular_less (ReadBegins j) b all)
  regular_back (ReadEnds j u ∷ b) formed all =
      let s = before_read j b in
      let part = before_read-beginning j b in
      let (k, may) = all j (length s) (length b) u (read_there j u b (length s) (reading_began j b formed.2)) in (
        regular_back b formed.0 (regular_less (ReadEnds j u) b all),
        of_numbers r.first r s b part formed.0 u k (may_less (ReadEnds j u) b r.first (length s) (length b) u k (length-beginning s b part) (omega arith) may),
      )

  -- what a safe history implies about a read
  abbrev IsSafeRead : List RegisterEvent → (start stop v : ℕ) → Type 0
  IsSafeRead h start stop v = IsValue r v × (IsQuiet h start stop → IsOfSome h start stop v)

  safe_early : (e : RegisterEvent) (b : List RegisterEvent) (i start stop v : ℕ) → stop < length b → IsSafeByIntervals r b → IsReadFrom (e ∷ b) i start stop v → IsSafeRead (e ∷ b) start stop v
  safe_early e b i start stop v early all is =
      let le : start ≤ length b = (let l = is.later in omega (arith, l, early)) in
      let mine : IsSafeRead b start stop v = all i start stop v (read_before i start stop v e b early is) in (
        mine.0,
        λ quiet. (
            let (k, may) = mine.1 (quiet_less e b start stop le quiet) in
            (k, may_more e b r.first start stop v k le (omega (arith, early)) may)),
      )

  safe_other : (e : RegisterEvent) (b : List RegisterEvent) → ((i v : ℕ) → e ≢ ReadEnds i v) → IsSafeByIntervals r b → IsSafeByIntervals r (e ∷ b)
  safe_other e b other all i start stop v is = elim (placed_event-cases e b stop (ReadEnds i v) is.ends) [
    | inl here ↦ absurd (other i v here.1)
    | inr early ↦ safe_early e b i start stop v early.0 all is
  ]

  safe_less : (e : RegisterEvent) (b : List RegisterEvent) → IsSafeByIntervals r (e ∷ b) → IsSafeByIntervals r b
  safe_less e b all i start stop v is =
      let within = placed_event-within b stop (ReadEnds i v) is.ends in
      let le : start ≤ length b = (let l = is.later in omega (arith, l, within)) in
      let few : stop ≤ length b = omega (arith, within) in
      let mine : IsSafeRead (e ∷ b) start stop v = all i start stop v (read_still i start stop v e b is) in (
        mine.0,
        λ quiet. (
            let (k, may) = mine.1 (quiet_more e b start stop le few quiet) in
            (k, may_less e b r.first start stop v k le few may)),
      )

  safe_there : (h : List RegisterEvent) → IsWellFormed r h → IsSafe r h → IsSafeByIntervals r h
  safe_there [] formed has = λ i start stop v is. absurd (none-some (ReadEnds i v) is.ends)
  safe_there (WriteBegins v ∷ b) formed has = safe_other (WriteBegins v) b (λ i u k. cc) (safe_there b formed.0 has)
  safe_there (WriteEnds ∷ b) formed has = safe_other WriteEnds b (λ i u k. cc) (safe_there b formed.0 has)
  safe_there (ReadBegins j ∷ b) formed has = safe_other (ReadBegins j) b (λ i u k. cc) (safe_there b formed.0 has)
  safe_there (ReadEnds j u ∷ b) formed has = λ i start stop v is. elim (placed_event-cases (ReadEnds j u) b stop (ReadEnds i v) is.ends) [
    | inl here ↦
        let s = before_read j b in
        let part = before_read-beginning j b in
        let le = length-beginning s b part in
        let k = code b (started b) in
        let mine : IsSafeRead (ReadEnds j u ∷ b) (length s) (length b) u = (
          has.1,
          λ quiet. (
              let same = quiet_numbers r.first r s b part formed.0 (quiet_less (ReadEnds j u) b (length s) (length b) le quiet) in
              let may : MayBeOf r.first b (length s) (length b) u k = of_places r.first r s b part formed.0 u (started b) (has.2 same) in
              (k, may_more (ReadEnds j u) b r.first (length s) (length b) u k le (omega arith) may)),
        ) in
        of_last b j u i start stop v (λ x y z. IsSafeRead (ReadEnds j u ∷ b) x y z) (last_read b j u i start stop v formed.2 here.0 here.1 is) mine
    | inr early ↦ safe_early (ReadEnds j u) b i start stop v early.0 (safe_there b formed.0 has.0) is
  ]

  safe_back : (h : List RegisterEvent) → IsWellFormed r h → IsSafeByIntervals r h → IsSafe r h
  safe_back [] formed all = tt
  safe_back (WriteBegins v ∷ b) formed all = safe_back b formed.0 (safe_less (WriteBegins v) b all)
  safe_back (WriteEnds ∷ b) formed all = safe_back b formed.0 (safe_less WriteEnds b all)
  safe_back (ReadBegins j ∷ b) formed all = safe_back b formed.0 (safe_less (ReadBegins j) b all)
  safe_back (ReadEnds j u ∷ b) formed all =
      let s = before_read j b in
      let part = before_read-beginning j b in
      let le = length-beginning s b part in
      let mine : IsSafeRead (ReadEnds j u ∷ b) (length s) (length b) u = all j (length s) (length b) u (read_there j u b (length s) (reading_began j b formed.2)) in (
        safe_back b formed.0 (safe_less (ReadEnds j u) b all),
        mine.0,
        λ same. (
            let (k, may) = mine.1 (quiet_more (ReadEnds j u) b (length s) (length b) le (omega arith) (quiet_places r.first r s b part formed.0 same)) in
            let (n, is) = of_numbers r.first r s b part formed.0 u k (may_less (ReadEnds j u) b r.first (length s) (length b) u k le (omega arith) may) in
            of_quiet r.first r s b part formed.0 same u n is),
      )

pub safe_is : SafeIsByIntervals
safe_is = record { there = safe_there; back = safe_back }

pub regular_is : RegularIsByIntervals
regular_is = record { there = regular_there; back = regular_back }
