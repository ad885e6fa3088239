-- The ends of a counter ring that have made no call, and those between calls.
use Rattle.std.proofs.Common.{arith, ◌≡◌, ℕ, Bool, false, List, [], refl, ap, ◌∙◌}
use Rattle.ring_ends.proofs.Common.{Side, P, C, Event, Shape, open_access, made_leave_none_open, take_program, RingEnd, StandsAs}
use Rattle.ring_core.specs.Puts.{put_program}
use Rattle.ring_seats.specs.Rule.{IsIdle}
use Rattle.ring_core.specs.ProducerCalls.{no_puts}
use Rattle.ring_core.specs.ConsumerCalls.{no_takes}
use Rattle.ring_ends.specs.Ends.{HasPuts, HasTakes}
use Rattle.ring_ends.specs.CounterEnds.{CountedList, IsPutterList, IsTakerList}

new_list :
    (x : Side) (Has : Shape → List Event → Type 0) (e : RingEnd) → e.side ≡ x → e.list ≡ [] → StandsAs x e → Has e.ring.shape [] →
    CountedList x Has (λ (_ : Shape). 0) e 0 0
new_list x Has e side none stands has = grind arith

pub new_putter : (e : RingEnd) → e.side ≡ P → e.list ≡ [] → StandsAs P e → IsPutterList e 0 0 false
new_putter e side none stands =
    (no_puts, new_list P (λ (s : Shape) (l : List Event). HasPuts s l no_puts) e side none stands (record { are = tt; list_is = refl }), refl)

pub new_taker : (e : RingEnd) → e.side ≡ C → e.list ≡ [] → StandsAs C e → IsTakerList e 0 0 false
new_taker e side none stands =
    (no_takes, new_list C (λ (s : Shape) (l : List Event). HasTakes s l no_takes) e side none stands (record { are = tt; list_is = refl }), refl)

pub putter_idle : (e : RingEnd) (count cell : ℕ) (closed : Bool) → IsPutterList e count cell closed → IsIdle P e.list
putter_idle e count cell closed (calls, at, same) = ap (open_access P) at.has.list_is ∙ made_leave_none_open P (put_program e.ring.shape calls)

pub taker_idle : (e : RingEnd) (count cell : ℕ) (told : Bool) → IsTakerList e count cell told → IsIdle C e.list
taker_idle e count cell told (calls, at, same) = ap (open_access C) at.has.list_is ∙ made_leave_none_open C (take_program e.ring.shape calls)

pub both_idle :
    (a : RingEnd) (put cell : ℕ) (closed : Bool) (b : RingEnd) (taken cell' : ℕ) (told : Bool) → IsPutterList a put cell closed → IsTakerList b taken cell' told → IsIdle P a.list × IsIdle C b.list
both_idle a put cell closed b taken cell' told p t = (putter_idle a put cell closed p, taker_idle b taken cell' told t)
