use Rattle.std.proofs.Common.{◌≡◌, ◌⊎◌, ◌∙◌, ℕ, List, [], Option, Some, None, inl, inr, refl, subst, sym, IfSome, IfNone, arith}
use Rattle.clap.specs.Words.{HasKind, Kinds, kind_of}
use Rattle.clap.specs.declared.error.Error.{Error}
use Rattle.clap.specs.declared.error.kind.ErrorKind.{ErrorKind}
use Rattle.clap.specs.declared.error.kind.ErrorKind.TheVariants as kind
use Rattle.ring_program.specs.Answers.{AsksNoInput, Ends, EndsOn, EndsUnasked, Explains, IsCallsCause, IsHelp, IsLongBitsCause, IsOutOfMemory, IsRegisterCause, IsShortage, IsStatus, IsTrueCause, NoMemory, WasWritten}
use Rattle.ring_program.specs.Faults.{Gains}
use Rattle.ring_program.specs.declared.command_line.Question.TheVariants.{Audit, Play}
use Rattle.ring_program.specs.declared.command_line.Request.{Request}
use Rattle.ring_program.specs.declared.command_line.Request.TheVariants.{OnInput, Calls, Register, LongBits, Run}
use Rattle.ring_program.specs.declared.faults.AppFault.TheVariants as app
use Rattle.ring_program.specs.declared.faults.Refusal.TheVariants as refusal
use Rattle.ring_program.proofs.program.execute.Goals as goal
use Rattle.ring_program.proofs.Endings.{if_some}

no_help : (k : ErrorKind) → k ≡ kind.OutOfMemory → ¬ IsHelp k
no_help k is (inl help) = let clash : kind.DisplayHelp ≡ kind.OutOfMemory = sym help ∙ is in cc
no_help k is (inr version) = let clash : kind.DisplayVersion ≡ kind.OutOfMemory = sym version ∙ is in cc

-- only an error of memory, and what was written then
only_memory : (k : ErrorKind) (before after : Option (List ℕ)) (Tells : List ℕ → Type 0) (status : ℕ) → Explains k before after Tells status → k ≡ kind.OutOfMemory → NoMemory before after Tells status
only_memory k before after Tells status (inl short) is = short.1
only_memory k before after Tells status (inr (inl help)) is = absurd (no_help k is help.0)
only_memory k before after Tells status (inr (inr mistake)) is = absurd (mistake.1 is)

-- out of memory is a true cause for each request
memory_cause : (r : Request) (input : List ℕ) → IsTrueCause r input (refusal.App app.OutOfMemory)
unfolding IsCallsCause IsLongBitsCause IsOutOfMemory IsRegisterCause IsShortage
memory_cause (OnInput (Audit what why)) input = inl (inl (inl refl))
memory_cause (OnInput (Play shows)) input = inl (inl (inl refl))
memory_cause (Calls stop) input = inl refl
memory_cause (Register question) input = inl refl
memory_cause LongBits input = inl refl
memory_cause (Run run) input = inl (inl refl)

-- a request is refused because memory ran out
short_on : (r : Request) (input : List ℕ) (before after : Option (List ℕ)) (Tells : List ℕ → Type 0) (status : ℕ) → NoMemory before after Tells status → EndsOn r input before after Tells status
short_on r input before after Tells status short = inr (refusal.App app.OutOfMemory, memory_cause r input, (short.0, short.1, ([], inl refl, short.2)))

short_of : (r : Request) (input before after : Option (List ℕ)) (Tells : List ℕ → Type 0) (status : ℕ) → NoMemory before after Tells status → Ends r input before after Tells status
short_of (Run run) input before after Tells status short = short_on (Run run) [] before after Tells status short
short_of (OnInput question) input before after Tells status short = if_some input _ (λ bytes. short_on (OnInput question) bytes before after Tells status short)
short_of (Calls stop) input before after Tells status short = if_some input _ (λ bytes. short_on (Calls stop) bytes before after Tells status short)
short_of (Register question) input before after Tells status short = if_some input _ (λ bytes. short_on (Register question) bytes before after Tells status short)
short_of LongBits input before after Tells status short = if_some input _ (λ bytes. short_on LongBits bytes before after Tells status short)

-- words that ask for something are refused only if memory ran out
asked_by : (request : Option Request) (input : Option (List ℕ)) (k : ErrorKind) (before after : Option (List ℕ)) (Tells : List ℕ → Type 0) (status : ℕ) → Explains k before after Tells status → (k ≡ kind.OutOfMemory) ⊎ (request ≡ None)
    → IfSome request (λ r. Ends r input before after Tells status)
asked_by None input k before after Tells status explains why = tt
asked_by (Some r) input k before after Tells status explains (inl is) = short_of r input before after Tells status (only_memory k before after Tells status explains is)
asked_by (Some r) input k before after Tells status explains (inr none) = cc

unasked_by : (kinds : Kinds) (e : Error) (before after : Option (List ℕ)) (Tells : List ℕ → Type 0) (status : ℕ) → HasKind kinds e → Explains (kind_of e) before after Tells status → EndsUnasked kinds before after Tells status
unasked_by kinds e before after Tells status has (inl short) = inl short.1
unasked_by kinds e before after Tells status has (inr (inl (help, inl short))) = inl short
unasked_by kinds e before after Tells status (inl is) (inr (inl (help, inr shown))) = absurd (no_help (kind_of e) is help)
unasked_by kinds e before after Tells status (inr among) (inr (inl (help, inr shown))) = grind arith
unasked_by kinds e before after Tells status (inl is) (inr (inr mistake)) = absurd (mistake.1 is)
unasked_by kinds e before after Tells status (inr among) (inr (inr mistake)) = grind arith

-- the status of an error of the command line
status_shown : (before after : Option (List ℕ)) (Tells : List ℕ → Type 0) (status : ℕ) → WasWritten before after Tells status → (status ≡ 0) ⊎ ((status ≡ 1) ⊎ (status ≡ 2))
status_shown before after Tells status (text, inl whole) = inl whole.0
status_shown before after Tells status (text, inr front) = inr (inl front.0)

status_unasked : (k : ErrorKind) (before after : Option (List ℕ)) (Tells : List ℕ → Type 0) (status : ℕ) → Explains k before after Tells status → (status ≡ 0) ⊎ ((status ≡ 1) ⊎ (status ≡ 2))
status_unasked k before after Tells status (inl short) = inr (inl short.1.0)
status_unasked k before after Tells status (inr (inl (help, inl short))) = inr (inl short.0)
status_unasked k before after Tells status (inr (inl (help, inr shown))) = status_shown before after Tells status shown
status_unasked k before after Tells status (inr (inr mistake)) = inr (inr mistake.2)

status_by : (request : Option Request) (k : ErrorKind) (before after : Option (List ℕ)) (Tells : List ℕ → Type 0) (status : ℕ) → Explains k before after Tells status → (k ≡ kind.OutOfMemory) ⊎ (request ≡ None) → IsStatus request status
status_by None k before after Tells status explains why = status_unasked k before after Tells status explains
status_by (Some r) k before after Tells status explains (inl is) = inl (only_memory k before after Tells status explains is).0
status_by (Some r) k before after Tells status explains (inr none) = cc

-- what the words ask for was answered
asked_so : (found : Option Request) (r : Request) (input before after : Option (List ℕ)) (Tells : List ℕ → Type 0) (status : ℕ) → Some r ≡ found
    → Ends r input before after Tells status → IfSome found (λ q. Ends q input before after Tells status)
asked_so found r input before after Tells status same ends = subst (λ q. IfSome q (λ asked. Ends asked input before after Tells status)) same ends

where_none : (request : Option Request) (P : Type 0) → P → IfNone request P
where_none None P h = h
where_none (Some r) P h = tt

pub returns-in-Err-clause-asked : goal.returns-in-Err-clause-asked
returns-in-Err-clause-asked g c =
    asked_by _ (g.I.Read.remaining c.args.input.now) (kind_of c.in-Err.error) _ _ _ c.explain.result.status c.explain.ensures.explained c.in-Err.ensures.refused

pub returns-in-Err-clause-unasked : goal.returns-in-Err-clause-unasked
returns-in-Err-clause-unasked g c = where_none _ _ (unasked_by _ c.in-Err.error _ _ (Gains (g.E.Write.contents c.args.err.now) (g.E.Write.contents c.explain.new.err) c.explain.result.is_told) c.explain.result.status c.in-Err.ensures.kinds c.explain.ensures.explained)

pub returns-in-Err-clause-statuses : goal.returns-in-Err-clause-statuses
returns-in-Err-clause-statuses g c = status_by _ (kind_of c.in-Err.error) _ _ (Gains (g.E.Write.contents c.args.err.now) (g.E.Write.contents c.explain.new.err) c.explain.result.is_told) c.explain.result.status c.explain.ensures.explained c.in-Err.ensures.refused

pub returns-in-Ok-Some-clause-asked : goal.returns-in-Ok-Some-clause-asked
returns-in-Ok-Some-clause-asked g c = grind (arith, asked_so, c.in-Ok-Some.ensures.asked, c.respond.ensures.asked)

pub returns-in-Ok-Some-clause-statuses : goal.returns-in-Ok-Some-clause-statuses
returns-in-Ok-Some-clause-statuses g c = grind (arith, c.in-Ok-Some.ensures.asked, c.respond.ensures.statuses)

pub returns-in-Ok-Some-clause-unread : goal.returns-in-Ok-Some-clause-unread
returns-in-Ok-Some-clause-unread g c none = c.respond.ensures.unread (subst AsksNoInput (sym (sym c.in-Ok-Some.field-0-is ∙ c.in-Ok-Some.ensures.asked)) none)
