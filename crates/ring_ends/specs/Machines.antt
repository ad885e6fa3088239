-- The machines of the two ends together with their lists.
use Rattle.std.specs.Prelude.{◌≡◌, ◌⊎◌, ℕ, Bool, ◌+◌, ◌-◌, ◌*◌, ◌<◌, ◌≤◌, true, false, Option, Some, None, List, [], ◌∷◌, ◌++◌, length, take}
use Rattle.bits_core.specs.declared.shapes.Shape.{Shape}
use Rattle.bits_core.specs.declared.events.Side.{Side}
use Rattle.bits_core.specs.declared.events.Side.TheVariants.{P, C}
use Rattle.bits_core.specs.declared.events.Access.{Access}
use Rattle.bits_core.specs.declared.events.Event.{Event}
use Rattle.bits_core.specs.Made.{Made, events_of}
use Rattle.ring_core.specs.declared.replies.TakeReply.TheVariants as take_reply
use Rattle.ring_core.specs.declared.replies.BatchReply as replies
use Rattle.ring_core.specs.declared.replies.BatchReply.TheVariants as reply
use Rattle.ring_core.specs.Puts.{Puts, put_program}
use Rattle.ring_core.specs.Takes.{Takes, take_program}
use Rattle.ring_core.specs.ProducerState.{ProducerState, Call, Put, Close, due_put, call_of}
use Rattle.ring_core.specs.ConsumerState.{ConsumerState, due_take, is_taking}
use Rattle.ring_core.specs.ProducerCalls as puts
use Rattle.ring_core.specs.ConsumerCalls as takes
use Rattle.ring_core.specs.Lengths.{longest_taking}
use Rattle.ring_seats.specs.Ring.{RingEnd}
use Rattle.ring_seats.specs.Programs.{begin_of}
use Rattle.ring_seats.specs.Steppers.{AreAnswered, Grows, IsSameEnd, StandsAs}
use Rattle.ring_ends.specs.Ends.{HasPutPart, HasTakePart, whole_put, whole_take}

-- the events of accesses, and perhaps the start of the one that is due
abbrev pub ListIs : Side → List Event → List Made → Option Access → Type 0
ListIs x list made due = (list ≡ events_of x made) ⊎ ((access : Access) × (due ≡ Some access) × (list ≡ events_of x made ++ begin_of x access ∷ []))

-- the list without its last n events
abbrev pub without_last : ℕ → List Event → List Event
without_last n list = take (length list - n) list

-- the last n events of the list are of a call that has at most `most` accesses
abbrev pub IsMarked : ℕ → List Event → ℕ → Type 0
IsMarked n list most = (n ≤ length list) × (n ≤ 2 * most)

-- the reply of a call that is refused at once after a close
abbrev pub IsRefusedAtOnce : Call → Option replies.BatchReply → Type 0
IsRefusedAtOnce (Put items) answer = answer ≡ Some reply.Closed
IsRefusedAtOnce Close answer = Unit {0}

-- the most accesses of the call under way, or 0 if there is none
abbrev pub longest_at : Shape → Option Call → ℕ
longest_at shape None = 0
longest_at shape (Some c) = puts.longest shape c

-- the most accesses of the take under way, or 0 if there is none
abbrev pub longest_while : Shape → Bool → ℕ → ℕ
longest_while shape false wanted = 0
longest_while shape true wanted = longest_taking shape wanted

-- ---- a side's machine

-- What a side's machine remembers, its calls, and what it reports: the access that is due, which call is under way, or that none is, and
-- whether the last call was started as one of several items. The accesses of calls, one more call, the most accesses of a call, and a part
-- of one. When the machine stands after calls and accesses, its state after one more access, and when a call is over at once. The list
-- without the events of the call under way, and the most accesses of that call.
pub record Machine : Type 1 where
  pub State : Type 0
  pub Calls : Type 0
  pub Call : Type 0
  pub side : Side
  pub shape_of : State → Shape
  pub due : State → Option Access
  pub Busy : State → Call → Type 0
  pub Rests : State → Type 0
  pub is_batch : State → Bool
  pub program : Shape → Calls → List Made
  pub More : Shape → Call → Calls → Calls → Type 0
  pub longest : Shape → Call → ℕ
  pub Part : Shape → Call → List Event → List Event → Type 0
  pub Stands : State → Calls → List Made → Type 0
  pub After : State → State → Calls → Calls → Type 0
  pub Refuses : Call → Calls → State → Type 0
  pub whole : State → List Event → List Event → List Event
  pub most : State → ℕ

-- the producer's machine
abbrev pub producing : Machine
producing = record {
  State = ProducerState;
  Calls = Puts;
  Call = Call;
  side = P;
  shape_of = λ (m : ProducerState). m.shape;
  due = due_put;
  Busy = λ (m : ProducerState) (c : Call). call_of m ≡ Some c;
  Rests = λ (m : ProducerState). call_of m ≡ None;
  is_batch = λ (m : ProducerState). m.batched;
  program = put_program;
  More = puts.HasCallMore;
  longest = puts.longest;
  Part = HasPutPart;
  Stands = puts.ProducerStands;
  After = λ (m m' : ProducerState) (calls more : Puts). puts.IsAfterCall m.shape (call_of m) (call_of m') calls more m'.reply;
  Refuses = λ (c : Call) (calls : Puts) (m : ProducerState). (calls.closes ≡ true) × IsRefusedAtOnce c m.reply;
  whole = λ (m : ProducerState). whole_put (call_of m);
  most = λ (m : ProducerState). longest_at m.shape (call_of m);
}

-- the consumer's machine
abbrev pub consuming : Machine
consuming = record {
  State = ConsumerState;
  Calls = Takes;
  Call = ℕ;
  side = C;
  shape_of = λ (m : ConsumerState). m.shape;
  due = due_take;
  Busy = λ (m : ConsumerState) (wanted : ℕ). (is_taking m ≡ true) × (m.wanted ≡ wanted);
  Rests = λ (m : ConsumerState). is_taking m ≡ false;
  is_batch = λ (m : ConsumerState). false;
  program = take_program;
  More = takes.HasTakeMore;
  longest = longest_taking;
  Part = HasTakePart;
  Stands = takes.ConsumerStands;
  After = λ (m m' : ConsumerState) (calls more : Takes). takes.IsAfterTake m.shape m.wanted (is_taking m) (is_taking m') calls more × (m'.wanted ≡ m.wanted);
  Refuses = λ (_ : ℕ) (calls : Takes) (m : ConsumerState). (takes.ends_closed calls.end ≡ true) × (m.reply ≡ Some take_reply.Closed);
  whole = λ (m : ConsumerState). whole_take (is_taking m);
  most = λ (m : ConsumerState). longest_while m.shape (is_taking m) m.wanted;
}

-- ---- together with an end

-- the machine stands after these calls and accesses, and the end's list, which is lawful, is theirs
pub record MachineAt (k : Machine) (e : RingEnd) (m : k.State) (calls : k.Calls) (made : List Made) : Type 0 where
  pub side_is : e.side ≡ k.side
  pub lawful : StandsAs k.side e
  pub shape_is : k.shape_of m ≡ e.ring.shape
  pub stands : k.Stands m calls made
  pub list_is : ListIs k.side e.list made (k.due m)

-- the machine stands after some calls and accesses, and the first list is that of the calls alone
pub record IsMachine (k : Machine) (e : RingEnd) (m : k.State) (whole : List Event) : Type 0 where
  pub calls : k.Calls
  pub made : List Made
  pub at : MachineAt k e m calls made
  pub whole_is : whole ≡ events_of k.side (k.program e.ring.shape calls)

-- The call was started, or it is under way; the accesses made are unchanged. If it is refused it is over at once.
abbrev pub CallBegins : (k : Machine) → k.State → k.State → k.Calls → List Made → k.Call → Type 0
CallBegins k m m' calls made c =
    (k.shape_of m' ≡ k.shape_of m) × k.Stands m' calls made ×
    ((k.Busy m' c × ((m' ≡ m) ⊎ (k.due m ≡ None) × k.Rests m)) ⊎ (k.Rests m' × k.Rests m × (k.due m ≡ None) × k.Refuses c calls m'))

-- one step of the call under way
pub record MachineStep (k : Machine) (a : RingEnd) (m : k.State) (b : RingEnd) (m' : k.State) (calls : k.Calls) : Type 0 where
  pub event : Event
  pub grows : Grows a b event
  pub more : k.Calls
  pub made : List Made
  pub at : MachineAt k b m' more made
  pub after : k.After m m' calls more
  pub within : (c : k.Call) → k.Busy m c → length b.list < 2 * (length (k.program (k.shape_of m) calls) + k.longest (k.shape_of m) c) + 1
  pub part : (c : k.Call) → k.Busy m' c → k.Part b.ring.shape c (events_of k.side (k.program (k.shape_of m) calls)) b.list

-- a machine and its end after one step of the call under way; if none is, nothing was made
pub record MachineStepped (k : Machine) (a : RingEnd) (m : k.State) (b : RingEnd) (m' : k.State)
    (old now : ℕ → Bool) : Type 0 where
  pub kind : k.is_batch m' ≡ k.is_batch m
  pub rests : k.Rests m → (m' ≡ m) × (b ≡ a)
  pub steps :
      (calls : k.Calls) (made : List Made) → MachineAt k a m calls made → (c : k.Call) → k.Busy m c →
      MachineStep k a m b m' calls
  pub answered : AreAnswered a b old now

-- no access of the call under way, if there is one, has been made yet
pub record MachineReady (k : Machine) (e : RingEnd) (m : k.State) (calls : k.Calls) : Type 0 where
  pub at : MachineAt k e m calls (k.program (k.shape_of m) calls)
  pub list_is : e.list ≡ events_of k.side (k.program (k.shape_of m) calls)

-- the call under way continues, and no access is open
pub record MachineGoes (k : Machine) (e : RingEnd) (m : k.State) (calls : k.Calls) (c : k.Call) : Type 0 where
  pub made : List Made
  pub at : MachineAt k e m calls made
  pub list_is : e.list ≡ events_of k.side made
  pub busy : k.Busy m c

-- the call is over, and is one of the calls
pub record MachineOver (k : Machine) (e : RingEnd) (m : k.State) (calls : k.Calls) (c : k.Call) : Type 0 where
  pub more : k.Calls
  pub made : List Made
  pub at : MachineAt k e m more made
  pub rests : k.Rests m
  pub is_more : k.More (k.shape_of m) c calls more

-- the call continues, and no access is open, or it is over
abbrev pub MachineIn : (k : Machine) → RingEnd → k.State → k.Calls → k.Call → Type 0
MachineIn k e m calls c = MachineGoes k e m calls c ⊎ MachineOver k e m calls c

-- a call that is under way continues, or is over
abbrev pub MachineBusy : (k : Machine) → RingEnd → k.State → Type 0
MachineBusy k e m = (d : k.Call) → k.Busy m d → (calls : k.Calls) × (c : k.Call) × MachineIn k e m calls c

-- The result of some accesses of a call: the list is no shorter, a call that was under way continues or is over, and if none was, nothing
-- was made
pub record MachineWent (k : Machine) (a : RingEnd) (m : k.State) (b : RingEnd) (m' : k.State) (old now : ℕ → Bool) : Type 0 where
  pub same : IsSameEnd a b
  pub longer : length a.list ≤ length b.list
  pub kind : k.is_batch m' ≡ k.is_batch m
  pub rests : k.Rests m → (m' ≡ m) × (b ≡ a)
  pub goes : (calls : k.Calls) (c : k.Call) → MachineIn k a m calls c → MachineIn k b m' calls c
  pub answered : AreAnswered a b old now

-- the result of all accesses of a call
pub record MachineEnded (k : Machine) (a : RingEnd) (m : k.State) (b : RingEnd) (m' : k.State) (old now : ℕ → Bool) : Type 0 where
  pub same : IsSameEnd a b
  pub kind : k.is_batch m' ≡ k.is_batch m
  pub rests : k.Rests m → (m' ≡ m) × (b ≡ a)
  pub over : (calls : k.Calls) → MachineReady k a m calls → (c : k.Call) → k.Busy m c → MachineOver k b m' calls c
  pub answered : AreAnswered a b old now
