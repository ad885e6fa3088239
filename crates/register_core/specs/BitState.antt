-- What the writer of a bit remembers, and the accesses that it has made.
use Rattle.std.specs.Prelude.{◌≡◌, Bool, Option, Some, None, List, [], ◌∷◌, ◌++◌, map}
use Rattle.bits_core.specs.declared.events.Bit.{Bit}
use Rattle.bits_core.specs.declared.events.Access.{Access}
use Rattle.bits_core.specs.declared.events.Access.TheVariants as begins
use Rattle.bits_core.specs.History.{last_value}
use Rattle.bits_core.specs.Made.{Made, Write}
use Rattle.register_core.specs.BitLaw.{logical_write, logical_writes}

-- the bit, the value that it holds, and the value last requested
pub record BitState : Type 0 where
  pub bit : Bit
  pub held : Bool
  pub wanted : Bool

-- a bit of this value, with no other requested
abbrev pub new_bit : Bit → Bool → BitState
new_bit bit first = record { bit = bit; held = first; wanted = first }

-- writes of values to a bit, as accesses that were made
abbrev pub writes_to : Bit → List Bool → List Made
writes_to b values = map (λ v. Write b v) values

-- the first of writes of values to a bit
abbrev pub first_write_to : Bit → List Bool → Option Access
first_write_to b [] = None
first_write_to b (v ∷ values) = Some (begins.Write b v)

-- the write that is due
abbrev pub due_change : BitState → Option Access
due_change w = first_write_to w.bit (logical_write w.held w.wanted)

-- the accesses of logical writes of these values to a bit of a first value
abbrev pub bit_writes : Bit → Bool → List Bool → List Made
bit_writes b first values = writes_to b (logical_writes first values)

-- The writer of a bit of this first value stands after the accesses, if these values were requested: the accesses, with
-- those still due, are the logical writes of the values.
pub record BitStands (w : BitState) (first : Bool) (values : List Bool) (made : List Made) : Type 0 where
  pub asked : last_value first values ≡ w.wanted
  pub goes_on : bit_writes w.bit first values ≡ made ++ writes_to w.bit (logical_write w.held w.wanted)
