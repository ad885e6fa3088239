-- Ends between calls.
use Rattle.std.proofs.Common.{arith, ◌≡◌, Bool, false, Option, Some, None, List, [], ◌∷◌, ap, ◌∙◌}
use Rattle.ring_ends.proofs.Common.{Event, open_access, TakeReply, Take, ProducerState, call_of, ConsumerState, is_taking, RingEnd, IsMachine, Machine, consuming, producing, MachineLaws}
use Rattle.ring_ends.proofs.Common.{made_leave_none_open}
use Rattle.ring_core.specs.ProducerCalls.{closes_with}
use Rattle.ring_core.specs.ConsumerCalls.{take_reply_to, last_take_reply, IsReplyToTake}
use Rattle.ring_seats.specs.Rule.{IsIdle}
use Rattle.ring_ends.specs.Meetings.{closed_reply, ClosesAre, TellsAre}
use Rattle.ring_ends.proofs.MachineCalls.{rest_list}
use Rattle.ring_ends.proofs.TakerCalls.{take_laws}

pub machine_idle : (k : Machine) → MachineLaws k → (e : RingEnd) (m : k.State) (whole : List Event) → IsMachine k e m whole → k.Rests m → IsIdle k.side e.list
machine_idle k ks e m whole i none = ap (open_access k.side) (rest_list k ks e m i.calls i.made i.at none) ∙ made_leave_none_open k.side (k.program e.ring.shape i.calls)

never_closed : (x : Take) → closed_reply (Some (take_reply_to x)) ≡ false
never_closed x = grind arith

last_not : (first : Option TakeReply) (xs : List Take) → closed_reply first ≡ false → closed_reply (last_take_reply first xs) ≡ false
last_not first [] is = is
last_not first (x ∷ xs) is = last_not (Some (take_reply_to x)) xs (never_closed x)

pub tells_are : (e : RingEnd) (m : ConsumerState) (whole : List Event) → (i : IsMachine consuming e m whole) → is_taking m ≡ false → (r : Option TakeReply) → IsReplyToTake i.calls (is_taking m) r → (told : Bool) → told ≡ closed_reply r → TellsAre e.ring.shape e.list told
tells_are e m whole i none r replied told is = grind (arith, rest_list, take_laws, last_not)

pub closes_are : (e : RingEnd) (m : ProducerState) (whole : List Event) → (i : IsMachine producing e m whole) → call_of m ≡ None → (closed : Bool) → closed ≡ closes_with i.calls (call_of m) → ClosesAre e.ring.shape e.list closed
closes_are e m whole i none closed is = grind arith
