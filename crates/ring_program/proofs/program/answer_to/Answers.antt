use Rattle.std.proofs.Common.{◌⊎◌, ◌≤◌, ℕ, List, Result, Ok, Err, IfErr, inl, inr, length}
use Rattle.ring_program.specs.Answers.{IsKeptCause, IsOutOfMemory, IsShortage, RefusesScript, RefusesTrace}
use Rattle.ring_program.specs.declared.faults.Refusal.{Refusal}
use Rattle.ring_program.specs.declared.inputs.TheConstants.{INPUT_LIMIT}
use Rattle.ring_program.proofs.program.answer_to.Goals as goal

-- a cause of a refusal of what was read
kept : {T : Type 0} (Refuses : List ℕ → Refusal → Type 0) (input : List ℕ) (r : Result T Refusal) → length input ≤ INPUT_LIMIT
    → IfErr r (λ e. IsOutOfMemory e ⊎ Refuses input e) → IfErr r (IsKeptCause Refuses input)
unfolding IsShortage
kept Refuses input (Ok answer) within refused = tt
kept Refuses input (Err e) within (inl short) = inl (inl short)
kept Refuses input (Err e) within (inr refuses) = inr (inr (within, refuses))

pub returns-in-Audit-clause-refused : goal.returns-in-Audit-clause-refused
returns-in-Audit-clause-refused g c = rw c.in-Audit.is (kept RefusesTrace _ c.audit_answer.result c.requires.within c.audit_answer.ensures.refused)

pub returns-in-Play-clause-refused : goal.returns-in-Play-clause-refused
returns-in-Play-clause-refused g c = rw c.in-Play.is (kept RefusesScript _ c.play_answer.result c.requires.within c.play_answer.ensures.refused)
