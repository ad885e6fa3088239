-- What a side's machine reports about the due access, its state after it, and the laws of a machine.
use Rattle.std.specs.Prelude.{◌≡◌, ◌⊎◌, ◌+◌, ◌<◌, Bool, true, Option, Some, None, List, [], ◌∷◌, ◌++◌, length}
use Rattle.bits_core.specs.declared.events.Access.{Access}
use Rattle.bits_core.specs.declared.events.Event.{Event}
use Rattle.bits_core.specs.declared.shapes.Shape.{Shape}
use Rattle.bits_core.specs.Made.{Made, answered, events_of, IsPrefix}
use Rattle.bits_core.specs.Open.{IsOpenRight}
use Rattle.ring_core.specs.Calls.{LastBitIsDue, EndsInZeros}
use Rattle.ring_seats.specs.Programs.{Follows}
use Rattle.ring_ends.specs.Machines.{Machine}

-- The laws of a side's machine. At most one call is under way, and one is if an access is due. Between calls its
-- accesses are those of its calls, and none is due. One more call is one of the side's program, and so is a part of it.
-- While a call is under way it stays the same; once it is over it is one of the calls.
pub record MachineLaws (k : Machine) : Type 0 where
  pub either : (m : k.State) → k.Rests m ⊎ ((c : k.Call) × k.Busy m c)
  pub never : (m : k.State) (c : k.Call) → k.Rests m → k.Busy m c → ⊥
  pub one : (m : k.State) (c d : k.Call) → k.Busy m c → k.Busy m d → c ≡ d
  pub due_busy : (m : k.State) (a : Access) → k.due m ≡ Some a → (c : k.Call) × k.Busy m c
  pub at_rest :
      (m : k.State) (calls : k.Calls) (made : List Made) → k.Stands m calls made → k.Rests m →
      (made ≡ k.program (k.shape_of m) calls) × (k.due m ≡ None)
  pub follows :
      (shape : Shape) (c : k.Call) (calls more : k.Calls) (list : List Event) → k.More shape c calls more →
      IsPrefix list (events_of k.side (k.program shape more)) → Follows shape k.side list
  pub part :
      (m : k.State) (c : k.Call) (calls more : k.Calls) (made : List Made) (list : List Event) →
      k.Stands m calls made → k.More (k.shape_of m) c calls more →
      IsPrefix list (events_of k.side (k.program (k.shape_of m) more)) →
      k.Part (k.shape_of m) c (events_of k.side (k.program (k.shape_of m) calls)) list
  pub stays : (m : k.State) (c : k.Call) (calls : k.Calls) → k.Busy m c → k.After m m calls calls
  pub goes :
      (m m' : k.State) (c d : k.Call) (calls more : k.Calls) → k.Busy m c → k.Busy m' d → k.After m m' calls more →
      (d ≡ c) × (more ≡ calls)
  pub over :
      (m m' : k.State) (c : k.Call) (calls more : k.Calls) → k.Busy m c → k.Rests m' → k.After m m' calls more →
      k.More (k.shape_of m) c calls more
  pub whole_rests : (m : k.State) (list start : List Event) → k.Rests m → k.whole m list start ≡ list
  pub whole_busy : (m : k.State) (c : k.Call) (list start : List Event) → k.Busy m c → k.whole m list start ≡ start
  pub most_rests : (m : k.State) → k.Rests m → k.most m ≡ 0
  pub most_busy : (m : k.State) (c : k.Call) → k.Busy m c → k.most m ≡ k.longest (k.shape_of m) c

-- After these calls, with these accesses made, the call under way continues with the access: whatever it returns, except
-- for a 0 of the last bit of the count, the accesses made followed by it are a prefix of those of one more call. The call
-- still has fewer accesses than it may have.
pub record Next (k : Machine) (m : k.State) (calls : k.Calls) (made : List Made) (a : Access) : Type 0 where
  pub one : k.Call
  pub is : k.Busy m one
  pub goes :
      (answer : Bool) → (LastBitIsDue (k.shape_of m) k.side (Some a) → answer ≡ true) →
      (more : k.Calls) × k.More (k.shape_of m) one calls more ×
      IsPrefix (made ++ answered a answer ∷ []) (k.program (k.shape_of m) more)
  pub few : length made < length (k.program (k.shape_of m) calls) + k.longest (k.shape_of m) one

-- the access is due: it is of a bit of the shape, the call under way continues with it, and if it is of the last bit of
-- the other side's count, the accesses made end in zeros
pub record Due (k : Machine) (m : k.State) (a : Access) : Type 0 where
  pub is : k.due m ≡ Some a
  pub right : IsOpenRight (k.shape_of m) k.side a
  pub next : (calls : k.Calls) (made : List Made) → k.Stands m calls made → Next k m calls made a
  pub zeros :
      (calls : k.Calls) (made : List Made) → k.Stands m calls made → LastBitIsDue (k.shape_of m) k.side (Some a) →
      EndsInZeros (k.shape_of m) k.side made

-- what `next` returns: the due access, or that no call is under way
abbrev pub TellsNext : (k : Machine) → k.State → Option Access → Type 0
TellsNext k m None = (calls : k.Calls) (made : List Made) → k.Stands m calls made → k.Rests m
TellsNext k m (Some a) = Due k m a

-- an answer to the due access may be fed: not a 0 of the last bit of the other side's count
abbrev pub MayFeed : (k : Machine) → k.State → Bool → Type 0
MayFeed k m answer =
    ((a : Access) × (k.due m ≡ Some a)) × (LastBitIsDue (k.shape_of m) k.side (k.due m) → answer ≡ true)

-- the due access was made with this answer: the machine stands after it, with the same calls or one more
pub record Fed (k : Machine) (m : k.State) (answer : Bool) (m' : k.State) : Type 0 where
  pub shape : k.shape_of m' ≡ k.shape_of m
  pub kind : k.is_batch m' ≡ k.is_batch m
  pub moved :
      (calls : k.Calls) (made : List Made) (a : Access) → k.Stands m calls made → k.due m ≡ Some a →
      (more : k.Calls) × k.Stands m' more (made ++ answered a answer ∷ []) × k.After m m' calls more
