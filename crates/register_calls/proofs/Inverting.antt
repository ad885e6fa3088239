-- A regular history is atomic, if no read in it began while a write was under way whose value had been returned since it began.
use Rattle.std.proofs.Common.{◌≡◌, ◌⊎◌, inl, inr, ℕ, suc, ◌≤◌, Bool, true, false, Option, Some, List, [], ◌∷◌, length, refl, ap, sym, subst, ◌∙◌, arith}
use Rattle.std.specs.Prelude.{◌==◌, ◌||◌, if◌then◌else◌, slice_get}
use Rattle.register_calls.proofs.Common.{cases_lt, eq-eqb, Register, RegisterEvent, WriteBegins, WriteEnds, ReadBegins, ReadEnds, IsWellFormed, started, finished, written_values, before_read}
use Rattle.register_calls.proofs.Common.{Together, Choice, NoneIsLater, Orders}
use Rattle.register_calls.specs.Reports.{NoneInvertsIsAtomic, could_invert, one_more_if, is_shown, is_value, being_written}
use Rattle.register_calls.proofs.Sets.{get_end}
use Rattle.register_calls.proofs.ReadLemmas.{length-written}
use Rattle.register_calls.proofs.OrderLemmas.{NoneIsLater-more, changed, Orders-more}

-- at most one write is under way
one_under_way : (r : Register) (h : List RegisterEvent) → IsWellFormed r h → started h ≤ suc (finished h)
one_under_way r [] formed = omega arith
one_under_way r (e ∷ b) formed = grind (arith, (one_under_way r b formed.0))

-- its value is the last one that was written
value_under_way : (r : Register) (h : List RegisterEvent) → IsWellFormed r h → started h ≡ suc (finished h) → being_written h ≡ slice_get (written_values r.first h) (started h)
value_under_way r [] formed more = absurd (omega (arith, more))
value_under_way r (WriteBegins v ∷ b) formed more = sym (get_end (written_values r.first b) v (suc (started b)) (sym (length-written r.first b)))
value_under_way r (WriteEnds ∷ b) formed more = let p = formed.2 in absurd (omega (arith, p, more))
value_under_way r (ReadBegins i ∷ b) formed more = value_under_way r b formed.0 more
value_under_way r (ReadEnds i v ∷ b) formed more = value_under_way r b formed.0 more

value_is : (o : Option ℕ) (v : ℕ) → o ≡ Some v → is_value o v ≡ true
value_is o v same = ap (λ (z : Option ℕ). is_value z v) same ∙ eq-eqb v v refl

either_one : (a b : Bool) → a ≡ true → (a || b) ≡ true
either_one a b e = ap (λ (z : Bool). z || b) e

either_other : (a b : Bool) → b ≡ true → (a || b) ≡ true
either_other a b h1 = grind arith

module _ (of : Choice) (i : ℕ) where
  -- no read that has ended is of a write that has not begun
  none_to_come : (first : ℕ) (h : List RegisterEvent) → Orders Together first of h → NoneIsLater Together of i (started h) h
  none_to_come first [] orders = tt
  none_to_come first (WriteBegins v ∷ b) orders = NoneIsLater-more Together of i (started b) (suc (started b)) b (omega arith) (none_to_come first b orders)
  none_to_come first (WriteEnds ∷ b) orders = none_to_come first b orders
  none_to_come first (ReadBegins j ∷ b) orders = none_to_come first b orders
  none_to_come first (ReadEnds j v ∷ b) orders = (none_to_come first b orders.0, λ seen. orders.1.1)

  -- none is of the write under way, or its value is shown
  none_or_shown :
      (r : Register) (h : List RegisterEvent) → IsWellFormed r h → Orders Together r.first of h → NoneIsLater Together of i (finished h) h ⊎ (is_shown h ≡ true)
  none_or_shown r [] formed orders = inl tt
  none_or_shown r (WriteBegins v ∷ b) formed orders = inl (subst (λ (n : ℕ). NoneIsLater Together of i n b) formed.2 (none_to_come r.first b orders))
  none_or_shown r (WriteEnds ∷ b) formed orders = inl (subst (λ (n : ℕ). NoneIsLater Together of i n b) formed.2 (none_to_come r.first b orders))
  none_or_shown r (ReadBegins j ∷ b) formed orders = none_or_shown r b formed.0 orders
  none_or_shown r (ReadEnds j v ∷ b) formed orders = elim (none_or_shown r b formed.0 orders.0) [
    | inr shown ↦ inr (either_one (is_shown b) (is_value (being_written b) v) shown)
    | inl none ↦ elim (cases_lt (finished b) (of (length b))) [
      | inr early ↦ inl (none, λ seen. early)
      | inl late ↦
          let few = orders.1.1 in
          let one = one_under_way r b formed.0 in
          let last : of (length b) ≡ started b = omega (arith, late, few, one) in
          let more : started b ≡ suc (finished b) = omega (arith, late, few, one) in
          let there : slice_get (written_values r.first b) (started b) ≡ Some v = subst (λ (n : ℕ). slice_get (written_values r.first b) n ≡ Some v) last orders.1.2 in
          inr (either_other (is_shown b) (is_value (being_written b) v) (value_is (being_written b) v (value_under_way r b formed.0 more ∙ there)))
    ]
  ]

none_counted : (b : Bool) (n : ℕ) → one_more_if b n ≡ 0 → (b ≡ false) × (n ≡ 0)
none_counted b n h1 = grind arith

chosen_none : (of : Choice) (i : ℕ) (t : Bool) (a b : List RegisterEvent) → NoneIsLater Together of i (finished a) a → NoneIsLater Together of i (finished b) b →
    NoneIsLater Together of i (finished (if t then a else b)) (if t then a else b)
chosen_none of i t a b h1 h2 = grind arith

-- before each read that began, no read is of a later write than the last that had ended
none_before :
    (of : Choice) (i : ℕ) (r : Register) (h : List RegisterEvent) → IsWellFormed r h → Orders Together r.first of h → could_invert h ≡ 0 →
    NoneIsLater Together of i (finished (before_read i h)) (before_read i h)
none_before of i r [] formed orders none = tt
none_before of i r (WriteBegins v ∷ b) formed orders none = none_before of i r b formed.0 orders none
none_before of i r (WriteEnds ∷ b) formed orders none = none_before of i r b formed.0 orders none
none_before of i r (ReadBegins j ∷ b) formed orders none =
    let (hidden, fewer) = none_counted (is_shown b) (could_invert b) none in
    let here : NoneIsLater Together of i (finished b) b = elim (none_or_shown of i r b formed.0 orders) [
      | inl early ↦ early
      | inr shown ↦ (let wrong : false ≡ true = sym hidden ∙ shown in absurd cc)
    ] in
    chosen_none of i (i == j) b (before_read i b) here (none_before of i r b formed.0 orders fewer)
none_before of i r (ReadEnds j v ∷ b) formed orders none = none_before of i r b formed.0 orders.0 none

-- any choice that makes a history regular is an order
pub none_inverts : NoneInvertsIsAtomic
none_inverts r [] formed regular none = ((λ k. 0), tt)
none_inverts r (WriteBegins v ∷ b) formed regular none = none_inverts r b formed.0 regular none
none_inverts r (WriteEnds ∷ b) formed regular none = none_inverts r b formed.0 regular none
none_inverts r (ReadBegins i ∷ b) formed regular none = none_inverts r b formed.0 regular (none_counted (is_shown b) (could_invert b) none).1
none_inverts r (ReadEnds i v ∷ b) formed regular none =
    let (of, orders) = none_inverts r b formed.0 regular.0 none in
    let (n, is) = regular.1 in (
      changed of (length b) n,
      Orders-more Together r.first of b i v n orders is
          (NoneIsLater-more Together of i (finished (before_read i b)) n (before_read i b) is.0 (none_before of i r b formed.0 orders none)),
    )
