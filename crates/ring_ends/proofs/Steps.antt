-- The list of an end together with the accesses of its machine.
use Rattle.std.proofs.Common.{arith, ◌≡◌, ◌⊎◌, Bool, true, false, Option, Some, None, List, [], ◌∷◌, ◌++◌}
use Rattle.ring_ends.proofs.Common.{Side, Access, Event, Shape, open_access, Made, events_of}
use Rattle.bits_core.specs.Bits.{other, is_by}
use Rattle.ring_seats.specs.Programs.{Follows, GoesOn, begin_of, ending_event}
use Rattle.ring_ends.specs.Machines.{ListIs}
use Rattle.ring_ends.proofs.Lists.{begun_open}

-- the access can start, or it is open and can end
abbrev pub CanStepAt : Shape → Side → List Event → Access → Type 0
CanStepAt shape x list a =
    ((open_access x list ≡ None) × Follows shape x (list ++ begin_of x a ∷ []))
    ⊎ ((open_access x list ≡ Some a) × GoesOn shape x a list)

-- the access can be made completely
abbrev pub CanMakeAt : Shape → Side → List Event → Access → Type 0
CanMakeAt shape x list a = (open_access x list ≡ None) × Follows shape x (list ++ begin_of x a ∷ []) × GoesOn shape x a (list ++ begin_of x a ∷ [])

pub by_end : (x : Side) (a : Access) (v : Bool) → is_by x (ending_event x a v) ≡ true
by_end x a v = grind arith

pub not_by_end : (x : Side) (a : Access) (v : Bool) → is_by (other x) (ending_event x a v) ≡ false
not_by_end x a v = grind arith

pub none-some : {A : Type 0} (a : A) → None ≡ Some a → ⊥
none-some a e = cc

pub list_closed : (x : Side) (list : List Event) (made : List Made) (due : Option Access) → ListIs x list made due → open_access x list ≡ None → list ≡ events_of x made
list_closed x list made due h1 h2 = grind (arith, begun_open, none-some)
