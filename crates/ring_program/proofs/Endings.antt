-- How the program ends on a request, by its result.
use Rattle.std.proofs.Common.{arith, ◌≡◌, ◌≢◌, ◌<◌, ◌⊎◌, ℕ, Bool, true, false, List, Option, Some, None, Result, Ok, Err, IfErr, IfOk, IfSome, ap, append-nil, inl, inr, length, length-append, refl, string_bytes}
use Rattle.std.proofs.KnownBytes.{Keeps-refl}
use Rattle.std.specs.Prelude.{MatchResult}
use Rattle.std.specs.Io.KnownBytes.{Consumes, IsAtEnd}
use Rattle.ring_program.specs.Answers.{Answers, AnswersRun, Declines, Delivers, Ends, EndsOn, IsKeptCause, IsOutOfMemory, IsShortage, IsStatus, IsTrueCause, MayEnd, RefusesScript, RefusesTrace, relay_ending_of, verdict_ending_of}
use Rattle.ring_program.specs.Faults.{SaysRefusal}
use Rattle.bits_core.specs.declared.audits.Verdict.{Verdict}
use Rattle.bits_core.specs.declared.audits.Verdict.TheVariants.{Lawful, Fault}
use Rattle.ring_program.specs.declared.answers.Answer.{Answer}
use Rattle.ring_program.specs.declared.answers.Ending.{Ending}
use Rattle.ring_program.specs.declared.answers.Ending.TheVariants.{Done, FaultFound, LimitReached}
use Rattle.ring_program.specs.declared.command_line.Question.{Question}
use Rattle.ring_program.specs.declared.command_line.Question.TheVariants.{Audit, Play}
use Rattle.ring_program.specs.declared.command_line.Request.{Request}
use Rattle.ring_program.specs.declared.command_line.Request.TheVariants.{OnInput}
use Rattle.ring_program.specs.declared.command_line.Request.TheVariants as request
use Rattle.ring_program.specs.declared.run_line.Run.{Run}
use Rattle.ring_program.specs.declared.faults.AppFault.{AppFault}
use Rattle.ring_program.specs.declared.faults.AppFault.TheVariants as app
use Rattle.ring_program.specs.declared.faults.Refusal.{Refusal}
use Rattle.ring_program.specs.declared.faults.Refusal.TheVariants as refusal
use Rattle.ring_program.specs.declared.inputs.TheConstants.{INPUT_LIMIT}

-- what holds for all bytes holds for an input, if there is one
pub if_some : (input : Option (List ℕ)) (P : List ℕ → Type 0) → ((bytes : List ℕ) → P bytes) → IfSome input P
if_some None P each = tt
if_some (Some bytes) P each = each bytes

-- the result of a request was delivered
abbrev IsDelivered : {A : Type 0} → Result (Answer A) Refusal → (before after : Option (List ℕ)) (Tells : List ℕ → Type 0) (status : ℕ) → Type 0
IsDelivered r before after Tells status =
    MatchResult r (λ answer. Delivers (string_bytes answer.text) answer.ending before after Tells status) (λ e. Declines e before after Tells status)

-- it was an answer to the request, or a refusal with a true cause
pub ends_on : {A : Type 0} (asked : Request) (input before after : Option (List ℕ)) (Tells : List ℕ → Type 0) (r : Result (Answer A) Refusal) (status : ℕ)
    → IfSome input (λ bytes. IfOk r (λ answer. Answers asked bytes (string_bytes answer.text) answer.ending))
    → IfSome input (λ bytes. IfErr r (IsTrueCause asked bytes)) → IsDelivered r before after Tells status
    → IfSome input (λ bytes. EndsOn asked bytes before after Tells status)
ends_on asked None before after Tells r status answered refused done = tt
ends_on asked (Some bytes) before after Tells (Ok answer) status answered refused done = inl (string_bytes answer.text, answer.ending, answered, done)
ends_on asked (Some bytes) before after Tells (Err e) status answered refused done = inr (e, refused, done)

-- the status of an answer that was delivered
status_of_answer : (asked : Request) (text : List ℕ) (ending : Ending) (before after : Option (List ℕ)) (Tells : List ℕ → Type 0) (status : ℕ) → MayEnd asked ending
    → Delivers text ending before after Tells status → IsStatus (Some asked) status
status_of_answer asked text ending before after Tells status may (inl whole) = inr (ending, may, whole.0)
status_of_answer asked text ending before after Tells status may (inr front) = inl front.0

pub status_on : {A : Type 0} (asked : Request) (before after : Option (List ℕ)) (Tells : List ℕ → Type 0) (r : Result (Answer A) Refusal) (status : ℕ)
    → IfOk r (λ answer. MayEnd asked answer.ending) → IsDelivered r before after Tells status → IsStatus (Some asked) status
status_on asked before after Tells (Ok answer) status may done = status_of_answer asked (string_bytes answer.text) answer.ending before after Tells status may done
status_on asked before after Tells (Err e) status may done = inl done.0

-- how an answer ends
by_verdict : (verdict : Verdict) (ending : Ending) → ending ≡ verdict_ending_of verdict → (ending ≡ Done) ⊎ (ending ≡ FaultFound)
by_verdict Lawful ending is = inl is
by_verdict (Fault place kind) ending is = inr is

by_closed : (closed : Bool) (ending : Ending) → ending ≡ relay_ending_of closed → (ending ≡ Done) ⊎ (ending ≡ LimitReached)
by_closed true ending is = inl is
by_closed false ending is = inr is

pub question_may_end : {A : Type 0} (question : Question) (input : List ℕ) (r : Result (Answer A) Refusal)
    → IfOk r (λ answer. Answers (OnInput question) input (string_bytes answer.text) answer.ending) → IfOk r (λ answer. MayEnd (OnInput question) answer.ending)
question_may_end (Audit what why) input (Ok answer) is = by_verdict is.1.verdict answer.ending is.1.ends
question_may_end (Play shows) input (Ok answer) is = is.1.ends
question_may_end question input (Err e) is = tt

pub run_may_end : {A : Type 0} (run : Run) (r : Result (Answer A) Refusal) → IfOk r (λ answer. AnswersRun run (string_bytes answer.text) answer.ending)
    → IfOk r (λ answer. MayEnd (request.Run run) answer.ending)
run_may_end run (Ok answer) is = by_closed is.closed answer.ending is.ends
run_may_end run (Err e) is = tt

-- ---- an input that is kept

-- a fault of the reading is a true cause
kept_cause : (Refuses : List ℕ → Refusal → Type 0) (input : List ℕ) (fault : AppFault) → fault ≢ app.WriteFailed → fault ≢ app.NotOfRun → (fault ≡ app.TooLarge → INPUT_LIMIT < length input)
    → IsKeptCause Refuses input (refusal.App fault)
unfolding IsOutOfMemory IsShortage
kept_cause Refuses input app.ReadFailed unwritten unrun large = inl (inr refl)
kept_cause Refuses input app.TooLarge unwritten unrun large = inr (inl (refl, large refl))
kept_cause Refuses input app.WriteFailed unwritten unrun large = absurd (unwritten refl)
kept_cause Refuses input app.OutOfMemory unwritten unrun large = inl (inl (inl refl))
kept_cause Refuses input app.NotOfRun unwritten unrun large = absurd (unrun refl)

-- what was consumed of an input is no longer than the input
consumed : (input came rest : List ℕ) → INPUT_LIMIT < length came → Consumes (Some input) (Some rest) came → INPUT_LIMIT < length input
consumed input came rest large same = omega (arith, large, ap length same, length-append came rest)

large_input : (input : List ℕ) (after : Option (List ℕ)) (came : List ℕ) → INPUT_LIMIT < length came → Consumes (Some input) after came → INPUT_LIMIT < length input
large_input input None came large same = absurd same
large_input input (Some rest) came large same = consumed input came rest large same

cause : (question : Question) (input : List ℕ) (fault : AppFault) → fault ≢ app.WriteFailed → fault ≢ app.NotOfRun → (fault ≡ app.TooLarge → INPUT_LIMIT < length input)
    → IsTrueCause (OnInput question) input (refusal.App fault)
cause (Audit what why) input fault unwritten unrun large = kept_cause RefusesTrace input fault unwritten unrun large
cause (Play shows) input fault unwritten unrun large = kept_cause RefusesScript input fault unwritten unrun large

-- how the program ends on an input that could not be read
pub unread : (question : Question) (before after out : Option (List ℕ)) (Tells : List ℕ → Type 0) (fault : AppFault) (status : ℕ) → status ≡ 1 → fault ≢ app.WriteFailed → fault ≢ app.NotOfRun
    → (fault ≡ app.TooLarge → (came : List ℕ) × (INPUT_LIMIT < length came) × Consumes before after came)
    → SaysRefusal Tells (refusal.App fault) → Ends (OnInput question) before out out Tells status
unread question None after out Tells fault status one unwritten unrun large told = tt
unread question (Some input) after out Tells fault status one unwritten unrun large told = grind (arith, cause, large_input, Keeps-refl)

-- what holds for bytes that an input was read as, to its end, holds for the input
pub read_whole : (P : List ℕ → Type 0) (input after : Option (List ℕ)) (bytes : List ℕ) → Consumes input after bytes → IsAtEnd after → P bytes → IfSome input P
read_whole P None after bytes came end holds = tt
read_whole P (Some whole) None bytes came end holds = absurd came
read_whole P (Some whole) (Some rest) bytes came end holds = grind (arith, append-nil)
