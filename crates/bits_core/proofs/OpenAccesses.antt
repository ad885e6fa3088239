-- The access that a side has open in a lawful history is to a bit of the shape, by the side that may make it.
use Rattle.std.proofs.Common.{◌≡◌, Bool, Option, Some, List, arith}
use Rattle.std.specs.Prelude.{IfSome, if◌then◌else◌}
use Rattle.bits_core.proofs.Common.{Side, Bit, Access, Event, Shape, open_access, is_overlapped, held_at_begin, IsAnswer, IsLawful}
use Rattle.bits_core.specs.Open.{IsOpenRight}
use Rattle.bits_core.proofs.LawProofs.{open_is_by_interval}

pub open_right : (shape : Shape) (h : List Event) (s : Side) (access : Access) → IsLawful shape h → open_access s h ≡ Some access → IsOpenRight shape s access
open_right shape h s access lawful still = grind (arith, open_is_by_interval h s access)

pub open_right_some : (shape : Shape) (h : List Event) (s : Side) (o : Option Access) → IsLawful shape h → o ≡ open_access s h → IfSome o (IsOpenRight shape s)
open_right_some shape h s o lawful e = grind (arith, open_right)

-- the answer to an overlapped read, or otherwise what the bit held, is permitted
pub IsAnswer-from : (h : List Event) (s : Side) (b : Bit) (asked v : Bool) → v ≡ (if is_overlapped s b h then asked else held_at_begin s b h) → IsAnswer h s b v
IsAnswer-from h s b asked v e = grind arith
