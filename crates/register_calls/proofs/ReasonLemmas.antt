-- What contradicts a read is a fact: with it the history lacks the class.
use Rattle.std.proofs.Common.{◌≡◌, inl, inr, ℕ, ◌≤◌, Some, List, [], ◌∷◌, length, sym, subst, ◌∙◌, arith}
use Rattle.std.specs.Prelude.{slice_get}
use Rattle.register_calls.proofs.Common.{cases_lt, same_Some, Register, RegisterEvent, WriteBegins, WriteEnds, ReadBegins, ReadEnds, Class, Safe, Regular, AtomicByReader, Atomic, EarlierRead}
use Rattle.register_calls.proofs.Common.{IsWellFormed, IsBeginning, started, finished, written_values, before_read, Scope, Together, EachAlone, IsSafe, IsRegular, Choice, NoneIsLater, Orders}
use Rattle.register_calls.proofs.Common.{HasOrder, HasClass, HasNone}
use Rattle.register_calls.specs.declared.reasons.MissReason.TheVariants.{NoValue, Held, NotWritten, Inverted}
use Rattle.register_calls.specs.Reasons.{IsBound, IsInverted, ReasonIsFact}
use Rattle.register_calls.proofs.Beginnings.{before_read-beginning}
use Rattle.register_calls.proofs.ClassLemmas.{order_is_regular, regular_is_safe}

module _ (s : Scope) (first : ℕ) (of : Choice) where
  -- what holds for a history holds for each prefix of it
  orders_beginning : (b h : List RegisterEvent) → IsBeginning b h → Orders s first of h → Orders s first of b
  orders_beginning b [] is orders = subst (λ (z : List RegisterEvent). Orders s first of z) (sym is) orders
  orders_beginning b (e ∷ c) (inl is) orders = subst (λ (z : List RegisterEvent). Orders s first of z) (sym is) orders
  orders_beginning b (WriteBegins v ∷ c) (inr is) orders = orders_beginning b c is orders
  orders_beginning b (WriteEnds ∷ c) (inr is) orders = orders_beginning b c is orders
  orders_beginning b (ReadBegins i ∷ c) (inr is) orders = orders_beginning b c is orders
  orders_beginning b (ReadEnds i v ∷ c) (inr is) orders = orders_beginning b c is orders.0

  later_beginning : (i m : ℕ) (b h : List RegisterEvent) → IsBeginning b h → NoneIsLater s of i m h → NoneIsLater s of i m b
  later_beginning i m b [] is later = subst (λ (z : List RegisterEvent). NoneIsLater s of i m z) (sym is) later
  later_beginning i m b (e ∷ c) (inl is) later = subst (λ (z : List RegisterEvent). NoneIsLater s of i m z) (sym is) later
  later_beginning i m b (WriteBegins v ∷ c) (inr is) later = later_beginning i m b c is later
  later_beginning i m b (WriteEnds ∷ c) (inr is) later = later_beginning i m b c is later
  later_beginning i m b (ReadBegins j ∷ c) (inr is) later = later_beginning i m b c is later
  later_beginning i m b (ReadEnds j v ∷ c) (inr is) later = later_beginning i m b c is later.0

  -- a bound holds in every order
  bound_holds : (reads : List EarlierRead) (i n m : ℕ) (h : List RegisterEvent) → Orders s first of h → NoneIsLater s of i m h → IsBound s first reads i h n → n ≤ m
  bound_holds [] i n m h orders later is = omega (arith, is)
  bound_holds (read ∷ reads) i n m h orders later (before, low, begins, seen, ended, written, why, none) =
      let mine : Orders s first of (ReadEnds read.reader read.value ∷ before) = orders_beginning (ReadEnds read.reader read.value ∷ before) h begins orders in
      let past : NoneIsLater s of i m (ReadEnds read.reader read.value ∷ before) = later_beginning i m (ReadEnds read.reader read.value ∷ before) h begins later in
      let least : low ≤ of (length before) = elim why [
        | inl ends ↦ (let p = mine.1.0 in omega (arith, p, ends))
        | inr bound ↦
            bound_holds reads read.reader low (of (length before)) (before_read read.reader before)
            (orders_beginning (before_read read.reader before) before (before_read-beginning read.reader before) mine.0) mine.2 bound
      ] in
      let reached : n ≤ of (length before) = elim (cases_lt (of (length before)) n) [
        | inl early ↦ absurd (none (of (length before)) least early mine.1.2)
        | inr late ↦ late
      ] in
      let p = past.1 seen in
      omega (arith, p, reached)

-- no order has a read that is inverted
inverted_has_none : (s : Scope) (first : ℕ) (reads : List EarlierRead) (h : List RegisterEvent) (i v : ℕ) → IsInverted s first reads h i v → ¬ HasOrder s first (ReadEnds i v ∷ h)
inverted_has_none s first reads h i v (n, bound, none) (of, orders) = grind (arith, (before_read-beginning i h), (bound_holds s first of reads i n (of (length h)) (before_read i h) (orders_beginning s first of (before_read i h) h (before_read-beginning i h) orders.0) orders.2 bound), (orders_beginning s first of (before_read i h) h (before_read-beginning i h) orders.0), orders.0, orders.1.2, orders.2)

-- a history that is not safe has no class, and one that is not regular has no stronger one
unsafe_has_none : (c : Class) (r : Register) (h : List RegisterEvent) → IsWellFormed r h → ¬ IsSafe r h → ¬ HasClass c r h
unsafe_has_none Safe r h well unsafe has = unsafe has
unsafe_has_none Regular r h well unsafe has = unsafe (regular_is_safe r h well has)
unsafe_has_none AtomicByReader r h well unsafe has = unsafe (regular_is_safe r h well (order_is_regular EachAlone r.first h has))
unsafe_has_none Atomic r h well unsafe has = unsafe (regular_is_safe r h well (order_is_regular Together r.first h has))

not_written : (r : Register) (h : List RegisterEvent) (i v : ℕ) → HasNone (written_values r.first h) (finished (before_read i h)) v → ¬ IsRegular r.first (ReadEnds i v ∷ h)
not_written r h i v none has = let (n, is) = has.1 in none n is.0 is.2

held_another :
    (r : Register) (h : List RegisterEvent) (i v value : ℕ) → finished (before_read i h) ≡ started h → slice_get (written_values r.first h) (started h) ≡ Some value → (value ≡ v → ⊥) →
    ¬ IsSafe r (ReadEnds i v ∷ h)
held_another r h i v value quiet holds other has = other (same_Some value v (sym holds ∙ (has.2 quiet).2))

pub reason_is_fact : ReasonIsFact
reason_is_fact c r h i v NoValue well is = unsafe_has_none c r (ReadEnds i v ∷ h) well (λ has. is has.1)
reason_is_fact c r h i v (Held value since) well is = unsafe_has_none c r (ReadEnds i v ∷ h) well (held_another r h i v value is.0 is.1 is.2)
reason_is_fact Safe r h i v NotWritten well is = absurd is
reason_is_fact Regular r h i v NotWritten well is = not_written r h i v is
reason_is_fact AtomicByReader r h i v NotWritten well is = λ has. not_written r h i v is (order_is_regular EachAlone r.first (ReadEnds i v ∷ h) has)
reason_is_fact Atomic r h i v NotWritten well is = λ has. not_written r h i v is (order_is_regular Together r.first (ReadEnds i v ∷ h) has)
reason_is_fact Safe r h i v (Inverted reads) well is = absurd is
reason_is_fact Regular r h i v (Inverted reads) well is = absurd is
reason_is_fact AtomicByReader r h i v (Inverted reads) well is = inverted_has_none EachAlone r.first reads h i v is
reason_is_fact Atomic r h i v (Inverted reads) well is = inverted_has_none Together r.first reads h i v is
