-- The reads of a well-formed history have an order, of all readers together or of each alone, exactly when they have one by intervals.
use Rattle.std.proofs.Common.{rules, ◌≡◌, ◌≢◌, inl, inr, ℕ, zero, suc, ◌≤◌, ◌<◌, true, Some, List, [], ◌∷◌, length, ap, sym, subst, ◌∙◌, arith}
use Rattle.std.specs.Prelude.{◌==◌, if◌then◌else◌}
use Rattle.register_calls.proofs.Common.{eq-eqb, ne_eqb, cases_lt, none-some, Register, RegisterEvent, WriteBegins, WriteEnds, ReadBegins, ReadEnds, started, before_read, IsWellFormed, IsBeginning}
use Rattle.register_calls.proofs.Common.{Scope, sees, IsOf, Choice, NoneIsLater, Orders, HasOrder}
use Rattle.register_calls.specs.Intervals.{placed_event, IsReadFrom, MayBeOf, Chooses, HasChoice, OrderIsByIntervals}
use Rattle.register_calls.proofs.ReadLemmas.{chosen, left}
use Rattle.register_calls.proofs.Places.{placed_event-before, placed_event-cases, code, code-zero, code-last, code-less, code-later, code-le, code-within, numbered}
use Rattle.register_calls.proofs.Beginnings.{beginning_all, beginning_tail, beginning_in, before_read-beginning, started-beginning, length-beginning, placed_event-beginning, code-beginning, formed-beginning, reading_began, read_there, read_still, read_before, last_read, of_last}
use Rattle.register_calls.proofs.ByIntervals.{of_places, of_coded, may_more, may_less}

module _ (scope : Scope) where
  -- no read that ended, and that the reader has to respect, is of a later write
  later_at : (of : Choice) (j n : ℕ) (s : List RegisterEvent) (p i v : ℕ) → NoneIsLater scope of j n s → sees scope j i ≡ true → placed_event s p ≡ Some (ReadEnds i v) → of p ≤ n
  later_at of j n [] p i v none seen is = absurd (none-some (ReadEnds i v) is)
  later_at of j n (WriteBegins u ∷ b) p i v none seen is = elim (placed_event-cases (WriteBegins u) b p (ReadEnds i v) is) [
    | inl here ↦ (let k = here.1 in absurd cc)
    | inr early ↦ later_at of j n b p i v none seen early.1
  ]
  later_at of j n (WriteEnds ∷ b) p i v none seen is = elim (placed_event-cases WriteEnds b p (ReadEnds i v) is) [
    | inl here ↦ (let k = here.1 in absurd cc)
    | inr early ↦ later_at of j n b p i v none seen early.1
  ]
  later_at of j n (ReadBegins k ∷ b) p i v none seen is = elim (placed_event-cases (ReadBegins k) b p (ReadEnds i v) is) [
    | inl here ↦ (let k = here.1 in absurd cc)
    | inr early ↦ later_at of j n b p i v none seen early.1
  ]
  later_at of j n (ReadEnds k u ∷ b) p i v none seen is = elim (placed_event-cases (ReadEnds k u) b p (ReadEnds i v) is) [
    | inl here ↦
        let event = here.1 in
        let who : i ≡ k = cc in
        subst (λ (q : ℕ). of q ≤ n) (sym here.0) (none.1 (subst (λ (m : ℕ). sees scope j m ≡ true) who seen))
    | inr early ↦ later_at of j n b p i v none.0 seen early.1
  ]

-- what is known about a read in an order
record Known (first : ℕ) (of : Choice) (h : List RegisterEvent) (start stop v : ℕ) : Type 0 where
  few : of stop ≤ started h
  may : MayBeOf first h start stop v (code h (of stop))

known_more : (first : ℕ) (of : Choice) (e : RegisterEvent) (b : List RegisterEvent) (start stop v : ℕ) → start ≤ length b → stop ≤ length b → Known first of b start stop v → Known first of (e ∷ b) start stop v
known_more first of e b start stop v le few known = grind (arith, code, may_more)

module _ (scope : Scope) (r : Register) (of : Choice) where
  -- what is known about each read of a history
  abbrev IsKnown : List RegisterEvent → Type 0
  IsKnown h = (i start stop v : ℕ) → IsReadFrom h i start stop v → Known r.first of h start stop v

  known_early : (e : RegisterEvent) (b : List RegisterEvent) (i start stop v : ℕ) → stop < length b → IsReadFrom (e ∷ b) i start stop v → IsKnown b → Known r.first of (e ∷ b) start stop v
  known_early e b i start stop v early is all = grind (arith, known_more, read_before i start stop v e b early is)

  known_other : (e : RegisterEvent) (b : List RegisterEvent) → ((i v : ℕ) → e ≢ ReadEnds i v) → IsKnown b → IsKnown (e ∷ b)
  known_other e b other all i start stop v is = search (rules, known_early, placed_event-cases)

  known_all : (h : List RegisterEvent) → IsWellFormed r h → Orders scope r.first of h → IsKnown h
  known_all [] formed orders = λ i start stop v is. absurd (none-some (ReadEnds i v) is.ends)
  known_all (WriteBegins u ∷ b) formed orders = known_other (WriteBegins u) b (λ i v k. cc) (known_all b formed.0 orders)
  known_all (WriteEnds ∷ b) formed orders = known_other WriteEnds b (λ i v k. cc) (known_all b formed.0 orders)
  known_all (ReadBegins j ∷ b) formed orders = known_other (ReadBegins j) b (λ i v k. cc) (known_all b formed.0 orders)
  known_all (ReadEnds j u ∷ b) formed orders = λ i start stop v is. elim (placed_event-cases (ReadEnds j u) b stop (ReadEnds i v) is.ends) [
    | inl here ↦
        let s = before_read j b in
        let part = before_read-beginning j b in
        let mine : Known r.first of b (length s) (length b) u = record { few = orders.1.1; may = of_places r.first r s b part formed.0 u (of (length b)) orders.1 } in
        let more : Known r.first of (ReadEnds j u ∷ b) (length s) (length b) u = known_more r.first of (ReadEnds j u) b (length s) (length b) u (length-beginning s b part) (omega arith) mine in
        of_last b j u i start stop v (λ x y z. Known r.first of (ReadEnds j u ∷ b) x y z) (last_read b j u i start stop v formed.2 here.0 here.1 is) more
    | inr early ↦ known_early (ReadEnds j u) b i start stop v early.0 is (known_all b formed.0 orders.0)
  ]

  -- of two reads, one after the other, the later one is of no earlier write, if it has to respect the other
  abbrev AreOrdered : List RegisterEvent → Type 0
  AreOrdered h = (i start stop v j start' stop' u : ℕ) → IsReadFrom h i start stop v → IsReadFrom h j start' stop' u → sees scope j i ≡ true → stop < start' → of stop ≤ of stop'

  ordered_early :
      (e : RegisterEvent) (b : List RegisterEvent) (i start stop v j start' stop' u : ℕ) → stop' < length b → AreOrdered b → IsReadFrom (e ∷ b) i start stop v → IsReadFrom (e ∷ b) j start' stop' u → sees scope j i ≡ true →
      stop < start' → of stop ≤ of stop'
  ordered_early e b i start stop v j start' stop' u early all x y seen apart =
      let l = y.later in
      all i start stop v j start' stop' u (read_before i start stop v e b (omega (arith, early, l, apart)) x) (read_before j start' stop' u e b early y) seen apart

  ordered_other : (e : RegisterEvent) (b : List RegisterEvent) → ((i v : ℕ) → e ≢ ReadEnds i v) → AreOrdered b → AreOrdered (e ∷ b)
  ordered_other e b other all i start stop v j start' stop' u x y seen apart = elim (placed_event-cases e b stop' (ReadEnds j u) y.ends) [
    | inl here ↦ absurd (other j u here.1)
    | inr early ↦ ordered_early e b i start stop v j start' stop' u early.0 all x y seen apart
  ]

  ordered : (h : List RegisterEvent) → IsWellFormed r h → Orders scope r.first of h → AreOrdered h
  ordered [] formed orders = λ i start stop v j start' stop' u x y seen apart. absurd (none-some (ReadEnds i v) x.ends)
  ordered (WriteBegins w ∷ b) formed orders = ordered_other (WriteBegins w) b (λ i v k. cc) (ordered b formed.0 orders)
  ordered (WriteEnds ∷ b) formed orders = ordered_other WriteEnds b (λ i v k. cc) (ordered b formed.0 orders)
  ordered (ReadBegins k ∷ b) formed orders = ordered_other (ReadBegins k) b (λ i v k. cc) (ordered b formed.0 orders)
  ordered (ReadEnds k w ∷ b) formed orders = λ i start stop v j start' stop' u x y seen apart. elim (placed_event-cases (ReadEnds k w) b stop' (ReadEnds j u) y.ends) [
    | inl here ↦
        let s = before_read k b in
        let part = before_read-beginning k b in
        let last = last_read b k w j start' stop' u formed.2 here.0 here.1 y in
        let within : stop < length s = (let l = last.from in omega (arith, apart, l)) in
        let few : stop < length b = (let l = length-beginning s b part in omega (arith, l, within)) in
        let there : placed_event s stop ≡ Some (ReadEnds i v) = sym (placed_event-beginning s b stop part within) ∙ sym (placed_event-before (ReadEnds k w) b stop few) ∙ x.ends in
        let mine : sees scope k i ≡ true = subst (λ (m : ℕ). sees scope m i ≡ true) last.reader seen in
        subst (λ (p : ℕ). of stop ≤ of p) (sym here.0) (later_at scope of k (of (length b)) s stop i v orders.2 mine there)
    | inr early ↦ ordered_early (ReadEnds k w) b i start stop v j start' stop' u early.0 (ordered b formed.0 orders.0) x y seen apart
  ]

order_there : (scope : Scope) (r : Register) (h : List RegisterEvent) → IsWellFormed r h → HasOrder scope r.first h → HasChoice scope r.first h
order_there scope r h formed (of, orders) = (
  λ p. code h (of p),
  record {
    may = (λ i start stop v is. (known_all scope r of h formed orders i start stop v is).may);
    in_order = (λ i start stop v j start' stop' u x y seen apart. code-le h (of stop) (of stop') (ordered scope r of h formed orders i start stop v j start' stop' u x y seen apart) (known_all scope r of h formed orders j start' stop' u y).few);
  },
)

-- the number of a write, by its code
number : List RegisterEvent → ℕ → ℕ
number [] k = 0
number (WriteBegins v ∷ b) k = if k == suc (length b) then suc (started b) else number b k
number (WriteEnds ∷ b) k = number b k
number (ReadBegins i ∷ b) k = number b k
number (ReadEnds i v ∷ b) k = number b k

number-code : (h : List RegisterEvent) (n : ℕ) → n ≤ started h → number h (code h n) ≡ n
unfolding number
number-code [] n le = omega arith
number-code (WriteBegins v ∷ b) n le = elim (cases_lt (started b) n) [
  | inl more ↦
      let same : n ≡ suc (started b) = omega arith in
      let place : code (WriteBegins v ∷ b) n ≡ suc (length b) = ap (code (WriteBegins v ∷ b)) same ∙ code-last v b in
      chosen (code (WriteBegins v ∷ b) n == suc (length b)) (suc (started b)) (number b (code (WriteBegins v ∷ b) n)) (eq-eqb (code (WriteBegins v ∷ b) n) (suc (length b)) place) ∙ sym same
  | inr less ↦
      let place : code (WriteBegins v ∷ b) n ≡ code b n = code-less v b n less in
      let low = code-within b n less in
      left (code (WriteBegins v ∷ b) n == suc (length b)) (suc (started b)) (number b (code (WriteBegins v ∷ b) n)) (let apart : code (WriteBegins v ∷ b) n ≢ suc (length b) = omega (arith, place, low) in ne_eqb (code (WriteBegins v ∷ b) n) (suc (length b)) apart)
      ∙ ap (number b) place ∙ number-code b n less
]
number-code (WriteEnds ∷ b) n le = number-code b n le
number-code (ReadBegins i ∷ b) n le = number-code b n le
number-code (ReadEnds i v ∷ b) n le = number-code b n le

-- if a read may be of a write, the write has a number
coded_of : (first : ℕ) (h : List RegisterEvent) (start stop v k : ℕ) → MayBeOf first h start stop v k → (n : ℕ) × (n ≤ started h) × (code h n ≡ k)
coded_of first h start stop v zero may = (0, omega arith, code-zero h)
coded_of first h start stop v (suc w) may = let (n, num) = numbered first h v w may.0 in (n, num.few, num.coded)

may_before : (first : ℕ) (b h : List RegisterEvent) (start stop v k : ℕ) → IsBeginning b h → start ≤ length b → stop ≤ length b → MayBeOf first h start stop v k → MayBeOf first b start stop v k
may_before first b [] start stop v k is p q may = subst (λ (z : List RegisterEvent). MayBeOf first z start stop v k) (sym is) may
may_before first b (e ∷ c) start stop v k (inl is) p q may = subst (λ (z : List RegisterEvent). MayBeOf first z start stop v k) (sym is) may
may_before first b (e ∷ c) start stop v k (inr is) p q may =
    let l = length-beginning b c is in
    may_before first b c start stop v k is p q (may_less e c first start stop v k (omega (arith, l, p)) (omega (arith, l, q)) may)

read_in : (i start stop v : ℕ) (b h : List RegisterEvent) → IsBeginning b h → IsReadFrom b i start stop v → IsReadFrom h i start stop v
read_in i start stop v b [] is read = subst (λ (z : List RegisterEvent). IsReadFrom z i start stop v) is read
read_in i start stop v b (e ∷ c) (inl is) read = subst (λ (z : List RegisterEvent). IsReadFrom z i start stop v) is read
read_in i start stop v b (e ∷ c) (inr is) read = read_still i start stop v e c (read_in i start stop v b c is read)

module _ (scope : Scope) (r : Register) (h : List RegisterEvent) (places : ℕ → ℕ) (chooses : Chooses scope r.first h places) where
  -- the number that a read gets is that of its write
  coded_read : (i start stop v : ℕ) → IsReadFrom h i start stop v → (number h (places stop) ≤ started h) × (code h (number h (places stop)) ≡ places stop)
  coded_read i start stop v is = grind (arith, code, coded_of, number, number-code)

  ordered_numbers :
      (i start stop v j start' stop' u : ℕ) → IsReadFrom h i start stop v → IsReadFrom h j start' stop' u → sees scope j i ≡ true → stop < start' → number h (places stop) ≤ number h (places stop')
  ordered_numbers i start stop v j start' stop' u one other seen apart =
      let x = coded_read i start stop v one in
      let y = coded_read j start' stop' u other in
      let le = chooses.in_order i start stop v j start' stop' u one other seen apart in
      elim (cases_lt (number h (places stop')) (number h (places stop))) [
        | inl less ↦ (
            let k = code-later h (number h (places stop')) (number h (places stop)) less x.0 in
            let p = x.1 in let q = y.1 in absurd (omega (arith, k, p, q, le)))
        | inr ge ↦ ge
      ]

  -- the reads that ended in these events, and that this one has to respect, are of no later write
  none_later :
      (j start stop u : ℕ) → IsReadFrom h j start stop u → (s : List RegisterEvent) → IsBeginning s h → IsWellFormed r s → length s ≤ start → NoneIsLater scope (λ p. number h (places p)) j (number h (places stop)) s
  none_later j start stop u is [] part formed le = tt
  none_later j start stop u is (WriteBegins v ∷ s) part formed le = none_later j start stop u is s (beginning_tail (WriteBegins v) s h part) formed.0 (omega (arith, le))
  none_later j start stop u is (WriteEnds ∷ s) part formed le = none_later j start stop u is s (beginning_tail WriteEnds s h part) formed.0 (omega (arith, le))
  none_later j start stop u is (ReadBegins i ∷ s) part formed le = none_later j start stop u is s (beginning_tail (ReadBegins i) s h part) formed.0 (omega (arith, le))
  none_later j start stop u is (ReadEnds i v ∷ s) part formed le =
      let began = length (before_read i s) in
      let read = read_in i began (length s) v (ReadEnds i v ∷ s) h part (read_there i v s began (reading_began i s formed.2)) in (
        none_later j start stop u is s (beginning_tail (ReadEnds i v) s h part) formed.0 (omega (arith, le)),
        λ seen. ordered_numbers i began (length s) v j start stop u read is seen (omega (arith, le)),
      )

  orders_of : (b : List RegisterEvent) → IsBeginning b h → IsWellFormed r b → Orders scope r.first (λ p. number h (places p)) b
  orders_of [] part formed = tt
  orders_of (WriteBegins v ∷ b) part formed = orders_of b (beginning_tail (WriteBegins v) b h part) formed.0
  orders_of (WriteEnds ∷ b) part formed = orders_of b (beginning_tail WriteEnds b h part) formed.0
  orders_of (ReadBegins i ∷ b) part formed = orders_of b (beginning_tail (ReadBegins i) b h part) formed.0
  orders_of (ReadEnds j u ∷ b) part formed =
      let s = before_read j b in
      let rest = beginning_tail (ReadEnds j u) b h part in
      let below = before_read-beginning j b in
      let le = length-beginning s b below in
      let read = read_in j (length s) (length b) u (ReadEnds j u ∷ b) h part (read_there j u b (length s) (reading_began j b formed.2)) in
      let may : MayBeOf r.first (ReadEnds j u ∷ b) (length s) (length b) u (places (length b)) =
      may_before r.first (ReadEnds j u ∷ b) h (length s) (length b) u (places (length b)) part (omega (arith, le)) (omega arith) (chooses.may j (length s) (length b) u read) in
      let found = of_coded r.first r s b below formed.0 u (places (length b)) (may_less (ReadEnds j u) b r.first (length s) (length b) u (places (length b)) le (omega arith) may) in
      let few : found.0 ≤ started h = (let k = started-beginning b h rest in let l = found.2.1 in omega (arith, k, l)) in
      let same : found.0 ≡ number h (places (length b)) = sym (number-code h found.0 few) ∙ ap (number h) (code-beginning b h found.0 rest found.2.1 ∙ found.1) in (
        orders_of b rest formed.0,
        subst (λ (n : ℕ). IsOf r.first s b u n) same found.2,
        none_later j (length s) (length b) u read s (beginning_in s b h below rest) (formed-beginning s r b below formed.0) (omega arith),
      )

order_back : (scope : Scope) (r : Register) (h : List RegisterEvent) → IsWellFormed r h → HasChoice scope r.first h → HasOrder scope r.first h
order_back scope r h formed (places, chooses) = (λ p. number h (places p), orders_of scope r h places chooses h (beginning_all h) formed)

pub order_is : OrderIsByIntervals
order_is = record { there = order_there; back = order_back }
