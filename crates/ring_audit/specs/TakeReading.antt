-- What the reader of a consumer's events has read.
use Rattle.std.specs.Prelude.{◌≡◌, ◌≢◌, ℕ, ◌↔◌, Bool, true, false, IsTrue, Option, Some, None, List, [], ◌∷◌, ◌++◌, length}
use Rattle.bits_core.specs.declared.events.Side.TheVariants.{C}
use Rattle.bits_core.specs.declared.events.Access.{Access}
use Rattle.bits_core.specs.declared.events.Event.{Event}
use Rattle.bits_core.specs.declared.shapes.Shape.{Shape}
use Rattle.bits_core.specs.Made.{Made, events_of, IsPrefix}
use Rattle.bits_core.specs.Shape.{take_batch_of}
use Rattle.ring_core.specs.Counts.{first_count}
use Rattle.ring_core.specs.Takes.{Takes, take_program, AreTakes}
use Rattle.ring_core.specs.Items.{all_taken, items_taken, IsTold}
use Rattle.ring_core.specs.GoingOn.{EndInCellRead}
use Rattle.ring_core.specs.ConsumerState.{ConsumerState, due_take, is_taking}
use Rattle.ring_core.specs.ConsumerCalls.{ConsumerStands}
use Rattle.ring_core.specs.declared.consumers.Stage.TheVariants.{Counting}
use Rattle.ring_core.specs.declared.replies.TakeReply.{TakeReply}
use Rattle.ring_core.specs.declared.replies.TakeReply.TheVariants as replies
use Rattle.ring_audit.specs.declared.takes.TakeStep.{TakeStep}
use Rattle.ring_audit.specs.declared.takes.TakeStep.TheVariants.{Stops, GoesOn, Takes as TakesItems}
use Rattle.ring_audit.specs.Sides.{open_events, AreOfTakes}

-- the machine that makes the same calls, and the access that is open
pub record TakeReading : Type 0 where
  pub consumer : ConsumerState
  pub open_access : Option Access

-- the open access is the one that the machine has due
pub record IsTakeReading (r : TakeReading) : Type 0 where
  pub is_due : (access : Access) → r.open_access ≡ Some access → due_take r.consumer ≡ Some access

-- Until it counts, the take under way asks for as many items as a take may take. If it was made to count those that it has read, a write of
-- its count has begun.
pub record WantsAll (shape : Shape) (r : TakeReading) (made : List Made) : Type 0 where
  pub before_count : is_taking r.consumer ≡ true → r.consumer.stage ≢ Counting → r.consumer.wanted ≡ take_batch_of shape
  pub behind_word : is_taking r.consumer ≡ true → r.open_access ≡ None → EndInCellRead made → r.consumer.wanted ≡ take_batch_of shape

-- the reader stands after these events of the consumer, whose takes that have ended took these items
pub record TakesStand (shape : Shape) (r : TakeReading) (es : List Event) (items : List ℕ) : Type 0 where
  pub calls : Takes
  pub made : List Made
  pub shape_is : r.consumer.shape ≡ shape
  pub stands : ConsumerStands r.consumer calls made
  pub events_are : es ≡ events_of C made ++ open_events C r.open_access
  pub items_are : items ≡ all_taken calls.takes
  pub wants : WantsAll shape r made

-- the items that an event brought, of those that the machine has kept
abbrev pub brought : TakeStep → List ℕ → List ℕ
brought Stops kept = []
brought GoesOn kept = []
brought TakesItems kept = kept

-- what a reply implies about a take: whether it took items
abbrev pub step_by : Option TakeReply → TakeStep
step_by None = GoesOn
step_by (Some (replies.Item item)) = TakesItems
step_by (Some replies.Empty) = GoesOn
step_by (Some replies.Closed) = GoesOn

-- whether the reply is Closed
abbrev pub tells_closed : Option TakeReply → Bool
tells_closed None = false
tells_closed (Some (replies.Item item)) = false
tells_closed (Some replies.Empty) = false
tells_closed (Some replies.Closed) = true

-- One more event: if the reader stops, the events are not a prefix of those of any calls; otherwise it stands after them.
abbrev pub HasReadTake : Shape → TakeReading → TakeReading → Event → TakeStep → Type 0
HasReadTake shape old new e Stops = (es : List Event) (items : List ℕ) → TakesStand shape old es items → ¬ AreOfTakes shape (es ++ e ∷ [])
HasReadTake shape old new e GoesOn = (es : List Event) (items : List ℕ) → TakesStand shape old es items → TakesStand shape new (es ++ e ∷ []) items
HasReadTake shape old new e TakesItems =
    (es : List Event) (items : List ℕ) → TakesStand shape old es items → TakesStand shape new (es ++ e ∷ []) (items ++ new.consumer.items)

-- the events are a prefix of those of calls, by which these items were taken and a take returned Closed or not
pub record WereTaken (shape : Shape) (es : List Event) (items : List ℕ) (told : Bool) : Type 0 where
  pub calls : Takes
  pub are : AreTakes shape 0 calls.takes calls.end
  pub events : IsPrefix es (events_of C (take_program shape calls))
  pub taken : items ≡ items_taken shape first_count calls.takes (length es)
  pub told_is : IsTrue told ↔ IsTold shape calls (length es)
