-- A producer driven by hand over a memory.
use Rattle.std.specs.Prelude.{◌≡◌, ◌⊎◌, Option, Some, None, List, [], ◌∷◌, ◌++◌}
use Rattle.bits_core.specs.declared.events.Side.TheVariants.{P}
use Rattle.bits_core.specs.declared.events.Access.{Access}
use Rattle.bits_core.specs.declared.events.Event.{Event}
use Rattle.bits_core.specs.Made.{Made, events_of, opening_event, subhistory}
use Rattle.bits_core.specs.Memory.{MemoryState}
use Rattle.ring_core.specs.declared.replies.PutReply.{PutReply}
use Rattle.ring_core.specs.declared.replies.BatchReply.{BatchReply}
use Rattle.ring_core.specs.Puts.{Puts, put_program, ArePuts}
use Rattle.ring_core.specs.Takes.{Takes, FollowsTakes}
use Rattle.ring_core.specs.ProducerState.{ProducerState, due_put, item_reply}
use Rattle.ring_core.specs.ProducerCalls.{ProducerStands, IsReplyToCall}

-- the events are those of the accesses made, and perhaps the start of the one that is due
abbrev pub AreOf : List Event → List Made → Option Access → Type 0
AreOf list made due = (list ≡ events_of P made) ⊎ ((access : Access) × (due ≡ Some access) × (list ≡ events_of P made ++ opening_event P access ∷ []))

-- The machine is of the memory's shape, and stands after the accesses that are the producer's events in the history; the consumer's
-- events there follow its program.
pub record IsDriven (m : MemoryState) (p : ProducerState) : Type 0 where
  pub shape_is : p.shape ≡ m.shape
  pub calls : Puts
  pub made : List Made
  pub stands : ProducerStands p calls made
  pub own_is : AreOf (subhistory P m.events) made (due_put p)
  pub takes : Takes
  pub others : FollowsTakes m.shape m.events takes

-- the producer's events in the history are those of complete calls, the last of which was a put with this reply
pub record HasReplied (m : MemoryState) (reply : PutReply) : Type 0 where
  pub calls : Puts
  pub are : ArePuts m.shape 0 calls.puts
  pub own_is : subhistory P m.events ≡ events_of P (put_program m.shape calls)
  pub answer : BatchReply
  pub reply_is : Some reply ≡ item_reply (Some answer)
  pub answered : IsReplyToCall calls None (Some answer)
