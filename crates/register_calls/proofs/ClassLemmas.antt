-- The classes of a history: each is in the weaker ones, and each prefix has them.
use Rattle.std.proofs.Common.{◌≡◌, ℕ, Some, List, [], ◌∷◌, length, refl, arith}
use Rattle.std.specs.Prelude.{slice_get}
use Rattle.register_calls.proofs.Common.{Register, RegisterEvent, WriteBegins, WriteEnds, ReadBegins, ReadEnds, Safe, Regular, AtomicByReader, Atomic, IsValue, started, finished, written_values}
use Rattle.register_calls.proofs.Common.{before_read, IsWellFormed, IsOf, IsSafe, IsRegular, Scope, Together, EachAlone, Choice, NoneIsLater, Orders, HasOrder}
use Rattle.register_calls.specs.Findings.{BeginningHasClass, StrongerHasWeaker}
use Rattle.register_calls.proofs.Sets.{get_more}

module _ (s : Scope) (first : ℕ) (of : Choice) where
  ordered_is_regular : (h : List RegisterEvent) → Orders s first of h → IsRegular first h
  ordered_is_regular [] o = tt
  ordered_is_regular (WriteBegins v ∷ h) o = ordered_is_regular h o
  ordered_is_regular (WriteEnds ∷ h) o = ordered_is_regular h o
  ordered_is_regular (ReadBegins i ∷ h) o = ordered_is_regular h o
  ordered_is_regular (ReadEnds i v ∷ h) o = (ordered_is_regular h o.0, (of (length h), o.1))

-- a history with an order is regular
pub order_is_regular : (s : Scope) (first : ℕ) (h : List RegisterEvent) → HasOrder s first h → IsRegular first h
order_is_regular s first h (of, o) = ordered_is_regular s first of h o

later_alone : (of : Choice) (i n : ℕ) (h : List RegisterEvent) → NoneIsLater Together of i n h → NoneIsLater EachAlone of i n h
later_alone of i n [] x = tt
later_alone of i n (WriteBegins v ∷ h) x = later_alone of i n h x
later_alone of i n (WriteEnds ∷ h) x = later_alone of i n h x
later_alone of i n (ReadBegins j ∷ h) x = later_alone of i n h x
later_alone of i n (ReadEnds j v ∷ h) x = (later_alone of i n h x.0, λ seen. x.1 refl)

orders_alone : (first : ℕ) (of : Choice) (h : List RegisterEvent) → Orders Together first of h → Orders EachAlone first of h
orders_alone first of [] o = tt
orders_alone first of (WriteBegins v ∷ h) o = orders_alone first of h o
orders_alone first of (WriteEnds ∷ h) o = orders_alone first of h o
orders_alone first of (ReadBegins i ∷ h) o = orders_alone first of h o
orders_alone first of (ReadEnds i v ∷ h) o = (orders_alone first of h o.0, o.1, later_alone of i (of (length h)) (before_read i h) o.2)

-- what is atomic is atomic by reader
pub atomic_is_alone : (first : ℕ) (h : List RegisterEvent) → HasOrder Together first h → HasOrder EachAlone first h
atomic_is_alone first h (of, o) = (of, orders_alone first of h o)

-- each value that was written is one of the register
written_is_value : (r : Register) (h : List RegisterEvent) (n v : ℕ) → IsWellFormed r h → slice_get (written_values r.first h) n ≡ Some v → IsValue r v
written_is_value r [] n v well at = grind arith
written_is_value r (e ∷ h) n v well at = grind (arith, get_more, (written_is_value r h n v well.0))

last_of : (first : ℕ) (start h : List RegisterEvent) (v n : ℕ) → finished start ≡ started h → IsOf first start h v n → IsOf first start h v (started h)
last_of first start h v n quiet is = grind arith

-- what is regular is safe
pub regular_is_safe : (r : Register) (h : List RegisterEvent) → IsWellFormed r h → IsRegular r.first h → IsSafe r h
regular_is_safe r [] well x = tt
regular_is_safe r (WriteBegins v ∷ h) well x = regular_is_safe r h well.0 x
regular_is_safe r (WriteEnds ∷ h) well x = regular_is_safe r h well.0 x
regular_is_safe r (ReadBegins i ∷ h) well x = regular_is_safe r h well.0 x
regular_is_safe r (ReadEnds i v ∷ h) well x = grind (arith, last_of, written_is_value, (regular_is_safe r h well.0 x.0))

pub beginning : BeginningHasClass
beginning = grind arith

pub stronger : StrongerHasWeaker
stronger Safe Safe r h well is has = has
stronger Safe Regular r h well is has = absurd cc
stronger Safe AtomicByReader r h well is has = absurd cc
stronger Safe Atomic r h well is has = absurd cc
stronger Regular Safe r h well is has = regular_is_safe r h well has
stronger Regular Regular r h well is has = has
stronger Regular AtomicByReader r h well is has = absurd cc
stronger Regular Atomic r h well is has = absurd cc
stronger AtomicByReader Safe r h well is has = regular_is_safe r h well (order_is_regular EachAlone r.first h has)
stronger AtomicByReader Regular r h well is has = order_is_regular EachAlone r.first h has
stronger AtomicByReader AtomicByReader r h well is has = has
stronger AtomicByReader Atomic r h well is has = absurd cc
stronger Atomic Safe r h well is has = regular_is_safe r h well (order_is_regular Together r.first h has)
stronger Atomic Regular r h well is has = order_is_regular Together r.first h has
stronger Atomic AtomicByReader r h well is has = atomic_is_alone r.first h has
stronger Atomic Atomic r h well is has = has
