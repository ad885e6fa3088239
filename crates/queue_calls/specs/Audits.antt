-- What an auditor decides about a history, event by event.
use Rattle.std.specs.Prelude.{ℕ, ◌≡◌, ◌<◌, length, List, [], ◌∷◌, ◌++◌, Result, MatchResult}
use Rattle.queue_calls.specs.Queue.{Capacity}
use Rattle.queue_calls.specs.Calls.{Event, PutBegin, Producer, Putting, Point, CanLeadTo, IsLinearizable}
use Rattle.queue_calls.specs.InTurn.{CallsAreInTurn}
use Rattle.queue_calls.specs.State.{Keeps, taken_by}
use Rattle.queue_calls.specs.Told.{meant}
use Rattle.queue_calls.specs.declared.auditors.CallAuditor.{CallAuditor}
use Rattle.queue_calls.specs.declared.faults.Fault.{Fault}
use Rattle.queue_calls.specs.declared.faults.Fault.TheVariants.{OutOfTurn, NotLinearizable, OutOfMemory}

-- the auditor, whose list has these items, has read this history
abbrev pub Audits : {Q E : Type 0} → (items : Q → List ℕ) → CallAuditor Q E → List Event → Type 0
Audits items a h = Keeps (meant a.capacity) h (items a.inside) a.put a.take a.shut

-- the items that a put under way still offers
abbrev pub left_at : Producer → List ℕ
left_at (Putting lacked done left) = left
left_at _ = []

-- the items of a point: those that the take under way has taken, those in the queue, and those that the put under way still offers
abbrev pub items_at : Point → List ℕ
items_at s = taken_by s.consumer ++ (s.queue.items ++ left_at s.producer)

-- a linearizable history: at each point to which it can lead there are more than `room` items
abbrev pub HasMoreItems : ℕ → Capacity → List Event → Type 0
HasMoreItems room capacity h = IsLinearizable capacity h × ((s : Point) → CanLeadTo capacity h s → room < length (items_at s))

-- what a refusal implies about the history with the event, if a list has room for this many items
abbrev pub RefusesEvent : ℕ → Fault → Capacity → List Event → Event → Type 0
RefusesEvent room OutOfTurn capacity h event = ¬ CallsAreInTurn (h ++ event ∷ []) × ¬ IsLinearizable capacity (h ++ event ∷ [])
RefusesEvent room NotLinearizable capacity h event = CallsAreInTurn (h ++ event ∷ []) × ¬ IsLinearizable capacity (h ++ event ∷ [])
RefusesEvent room OutOfMemory capacity h event = ((items : List ℕ) × (event ≡ PutBegin items)) × HasMoreItems room capacity (h ++ event ∷ [])

-- After each history that it has read, an auditor reads an event: it accepts if the history with the event is linearizable, and has
-- then read that; otherwise it refuses, and has then read what it had before; or it refuses the start of a put because there are more
-- items than its list has room for.
abbrev pub Reads : {Q E : Type 0} → (items : Q → List ℕ) → (room : Q → ℕ) → CallAuditor Q E → Event → Result Unit Fault → CallAuditor Q E → Type 0
Reads items room old event result new =
    (new.capacity ≡ old.capacity) ×
    ((h : List Event) → Audits items old h →
    MatchResult result (λ _. Audits items new (h ++ event ∷ []) × IsLinearizable (meant old.capacity) (h ++ event ∷ []))
    (λ fault. Audits items new h × RefusesEvent (room old.inside) fault (meant old.capacity) h event))
