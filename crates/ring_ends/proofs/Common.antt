-- The names of other crates and of the specs that most proofs here cite, passed on from one place. Declares nothing.
pub use Rattle.bits_core.proofs.LawLemmas.{made_leave_none_open}
pub use Rattle.bits_core.specs.Bits.{other}
pub use Rattle.bits_core.specs.History.{open_access}
pub use Rattle.bits_core.specs.Made.{Made, Read, answered, events_of}
pub use Rattle.bits_core.specs.Open.{IsOpenRight}
pub use Rattle.bits_core.specs.Shape.{capacity_of, modulus_of}
pub use Rattle.bits_core.specs.declared.events.Access.{Access}
pub use Rattle.bits_core.specs.declared.events.Event.{Event}
pub use Rattle.bits_core.specs.declared.events.Side.{Side}
pub use Rattle.bits_core.specs.declared.events.Side.TheVariants.{C, P}
pub use Rattle.bits_core.specs.declared.shapes.Shape.{Shape}
pub use Rattle.register_core.specs.ScanState.{row_read_by}
pub use Rattle.ring_core.proofs.LawLemmas.{ring_is_linearizable}
pub use Rattle.ring_core.specs.Calls.{EndsInZeros, LastBitIsDue}
pub use Rattle.ring_core.specs.ConsumerCalls.{IsReplyToTake, ends_closed, items_reply, reply_at_end}
pub use Rattle.ring_core.specs.ConsumerState.{ConsumerState, is_taking}
pub use Rattle.ring_core.specs.ProducerState.{Close, ProducerState, call_of}
pub use Rattle.ring_core.specs.Puts.{ArePuts, Puts}
pub use Rattle.ring_core.specs.Takes.{AreTakes, Open, Take, Takes, take_program}
pub use Rattle.ring_core.specs.declared.replies.TakeReply.{TakeReply}
pub use Rattle.ring_ends.specs.Ends.{HasPutAll, HasTakenAll, number_brought, wants_next}
pub use Rattle.ring_ends.specs.Machines.{IsMachine, Machine, consuming, producing, without_last}
pub use Rattle.ring_ends.specs.Moves.{Due, Fed, MachineLaws}
pub use Rattle.ring_seats.proofs.CounterSteps.{same_end, same_shape}
pub use Rattle.ring_seats.specs.Programs.{Follows, begin_of, ending_event}
pub use Rattle.ring_seats.specs.Ring.{Ring, RingEnd}
pub use Rattle.ring_seats.specs.Steppers.{AreAnswered, Grows, IsAskedOnce, IsSameEnd, StandsAs}
pub use Rattle.std.proofs.lemmas.List.{length-append}
pub use Rattle.std.specs.Prelude.{IfNone, IfSome}
