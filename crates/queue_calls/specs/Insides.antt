-- The entries inside after an event.
use Rattle.std.specs.Prelude.{◌≡◌, ℕ, Bool, true, List, [], ◌++◌, map, length, take, drop, if◌then◌else◌, Result, MatchResult}
use Rattle.queue_calls.specs.Calls.{Event, PutBegin, PutEnd, TakeEnd, passed, is_shut}
use Rattle.queue_calls.specs.declared.auditors.CallAuditor.{CallAuditor}
use Rattle.queue_calls.specs.declared.faults.Fault.{Fault}

-- after an accepted event: those of a put's items follow them, unless the queue was known to be closed; a put that ends keeps some of the
-- first; a take that ends removes as many as it took
abbrev pub Moves : {E : Type 0} → (entry : ℕ → E) → Bool → Event → List E → List E → Type 0
Moves entry shut (PutBegin items) before after = after ≡ (if shut then before else before ++ map entry items)
Moves entry shut (PutEnd reply) before after = (is_shut reply ≡ true → after ≡ before) × (kept : ℕ) × (after ≡ take kept before)
Moves entry shut (TakeEnd reply) before after = after ≡ drop (length (passed [] reply)) before
Moves entry shut _ before after = after ≡ before

-- and a refused one changes nothing
abbrev pub MovesEntries : {Q E : Type 0} → (entries : Q → List E) → (entry : ℕ → E) → CallAuditor Q E → Event → Result Unit Fault → CallAuditor Q E → Type 0
MovesEntries entries entry old event result new =
    MatchResult result (λ _. Moves entry old.shut event (entries old.inside) (entries new.inside)) (λ _. entries new.inside ≡ entries old.inside)
