-- What an auditor decides about an event, from what it keeps alone.
use Rattle.std.specs.Prelude.{◌≡◌, ℕ, ◌+◌, ◌-◌, ◌<◌, false, List, length, Option, MatchOption, Result, MatchResult}
use Rattle.queue_calls.specs.Queue.{Capacity}
use Rattle.queue_calls.specs.Calls.{Event, PutBegin, Reply, CanReply, lacked_by}
use Rattle.queue_calls.specs.InTurn.{Sides, MovesSides}
use Rattle.queue_calls.specs.State.{sides_of}
use Rattle.queue_calls.specs.Counting.{Kept, Counts, kept_by}
use Rattle.queue_calls.specs.Told.{meant}
use Rattle.queue_calls.specs.declared.auditors.CallAuditor.{CallAuditor}
use Rattle.queue_calls.specs.declared.faults.Fault.{Fault}
use Rattle.queue_calls.specs.declared.faults.Fault.TheVariants.{OutOfTurn, NotLinearizable, OutOfMemory}
use Rattle.queue_calls.specs.declared.turns.PutTurn.TheVariants.{Free}

-- how a call of `most` items that passed `done` ends: it cannot end so, or this is the number for which it reports that there was no room or
-- were no items
abbrev pub IsLackOf : {A : Type 0} → Reply A → (done most : ℕ) → Option ℕ → Type 0
IsLackOf reply done most result = MatchOption result (¬ CanReply reply done most) (λ lacked. CanReply reply done most × (lacked ≡ lacked_by reply done (most - done)))

-- an event is refused if it is out of turn; if it is in turn and cannot be counted; or if it starts a put whose items do not fit
abbrev pub RefusesCount : (room : ℕ) → Capacity → Kept → Event → Fault → Type 0
RefusesCount room capacity k event OutOfTurn = (t : Sides) → ¬ (MovesSides (sides_of k.put k.take) event t)
RefusesCount room capacity k event NotLinearizable = ((t : Sides) × MovesSides (sides_of k.put k.take) event t) × ((after : Kept) → ¬ (Counts capacity k event after))
RefusesCount room capacity k event OutOfMemory =
    (items : List ℕ) × (event ≡ PutBegin items) × (k.put ≡ Free) × (k.shut ≡ false) × (0 < length items) × (room < length k.inside + length items)

-- an event is counted, or refused, and then all that is kept is unchanged
abbrev pub Decides : {Q E : Type 0} → (items : Q → List ℕ) → (room : Q → ℕ) → CallAuditor Q E → Event → Result Unit Fault → CallAuditor Q E → Type 0
Decides items room old event result new =
    (new.capacity ≡ old.capacity) ×
    MatchResult result (λ _. Counts (meant old.capacity) (kept_by items old) event (kept_by items new))
    (λ fault. (kept_by items new ≡ kept_by items old) × RefusesCount (room old.inside) (meant old.capacity) (kept_by items old) event fault)
