-- A history that comes event by event or line by line: what is kept of it, and the verdict on the next one.
use Rattle.std.specs.Prelude.{◌≡◌, ℕ, ◌+◌, Bool, List, [], ◌∷◌, ◌++◌, Option, Some, None, Result, MatchOption, MatchResult, length, ⊤}
use Rattle.queue_calls.specs.Queue.{Capacity}
use Rattle.queue_calls.specs.Calls.{Event}
use Rattle.queue_calls.specs.Recordings.{Line, line, lines_text, AreLines, IsFindingWithin}
use Rattle.queue_calls.specs.RecordingStates.{HeardLines, IsFaultSoFar}
use Rattle.queue_calls.specs.Rooms.{HasLongHistory}
use Rattle.queue_calls.specs.Tallying.{IsTallied}
use Rattle.queue_calls.specs.Witnesses.{Remembers}
use Rattle.queue_calls.specs.declared.auditors.AuditorState.{AuditorState}
use Rattle.queue_calls.specs.declared.auditors.CallAuditor.{CallAuditor}
use Rattle.call_causes.specs.declared.entries.Offered.{Offered}
use Rattle.call_causes.specs.declared.entries.Taken.{Taken}
use Rattle.queue_calls.specs.declared.hearings.Hearing.{Hearing}
use Rattle.queue_calls.specs.declared.hearings.HearingState.{HearingState}
use Rattle.call_lines.specs.declared.lines.Word.{Word}
use Rattle.queue_calls.specs.declared.recordings.CallsFinding.{CallsFinding}
use Rattle.queue_calls.specs.declared.recordings.CallsFinding.TheVariants.{Lawful, OutOfTurn, NotLinearizable}
use Rattle.queue_calls.specs.declared.faults.RecordingFault.{RecordingFault}
use Rattle.queue_calls.specs.declared.faults.RecordingFault.TheVariants.{BadLine, TooLong, OutOfMemory}

-- the auditor that continues from what one kept, with this list
abbrev pub auditor_of : {Q E : Type 0} → AuditorState → Q → CallAuditor Q E
auditor_of state inside = record { capacity = state.capacity; inside = inside; put = state.put; take = state.take; shut = state.shut }

-- the hearing that continues from what one kept, with these lists
abbrev pub hearing_of : {S O T N B : Type 0} → HearingState → O → T → Hearing S O T N B
hearing_of state offered taken = record {
  witness = record { auditor = auditor_of state.auditor (record { list = offered }); taken = taken; limit = state.limit; last_taken = state.last_taken; ended_at = state.ended_at; told_at = state.told_at; put_at = state.put_at; stored_at = state.stored_at };
  tally = record { report = state.report; put_overlaps = state.put_overlaps; take_overlaps = state.take_overlaps };
  begun = state.begun;
  fault = None;
}

-- these events were heard, and no fault was found
abbrev pub HasHeardAll : {S O T N B : Type 0} → (offered : O → List Offered) → (last : T → List Taken) → Hearing S O T N B → Capacity → List Event → Type 0
HasHeardAll offered last hearing capacity events = Remembers offered last hearing.witness capacity events × IsTallied capacity events hearing.tally

-- After such events, one more, on the line with this number: it is heard; or this is the first fault, and everything is unchanged.
abbrev pub HearsNext : {S O T N B : Type 0} → (offered : O → List Offered) → (last : T → List Taken) → Hearing S O T N B → (number : ℕ) → Event → Option CallsFinding → Hearing S O T N B → Type 0
HearsNext offered last old number event found new =
    (capacity : Capacity) (events : List Event) → HasHeardAll offered last old capacity events → length events + 2 ≡ number →
    MatchOption found (HasHeardAll offered last new capacity (events ++ event ∷ []))
    (λ finding. HasHeardAll offered last new capacity events × IsFaultSoFar offered last (Some finding) new.witness new.tally capacity (events ++ event ∷ []))

-- the lines of a recording were heard, and no fault was found
abbrev pub FollowsLines : {S O T N B : Type 0} → (offered : O → List Offered) → (last : T → List Taken) → Hearing S O T N B → Bool → List Line → Type 0
FollowsLines offered last hearing is_cut lines = AreLines lines × HeardLines offered last hearing is_cut lines × (hearing.fault ≡ None)

-- why a line is not heard after others, on the line with this number: it cannot come there, and everything is unchanged; or a list with
-- this much room is too short, that of the items inside or that of the `limit` items taken last
abbrev pub RefusesNextLine : {S O T N B : Type 0} → (offered : O → List Offered) → (last : T → List Taken) → (limit offered_room taken_room : ℕ) → Bool → List Line → (number : ℕ) → Line → RecordingFault →
    Hearing S O T N B → Type 0
RefusesNextLine offered last limit o t is_cut before number next (BadLine bad) new = (bad ≡ number) × FollowsLines offered last new is_cut before × ¬ AreLines (before ++ next ∷ [])
RefusesNextLine offered last limit o t is_cut before number next TooLong new = ⊥
RefusesNextLine offered last limit o t is_cut before number next OutOfMemory new = HasLongHistory limit o t (lines_text (before ++ next ∷ []))

-- the finding is a fault
abbrev pub IsNotLawful : CallsFinding → Type 0
IsNotLawful (Lawful report) = ⊥
IsNotLawful (OutOfTurn number) = ⊤
IsNotLawful (NotLinearizable number cause) = ⊤

-- After such lines, one more, with this number: it is heard; or it is the first at fault, this is the finding on the text of all of them,
-- and everything is unchanged; or it is refused.
abbrev pub HearsLine : {S O T N B : Type 0} → (offered : O → List Offered) → (last : T → List Taken) → (offered_room taken_room : ℕ) → Hearing S O T N B → (number : ℕ) → Word → List ℕ →
    Result (Option CallsFinding) RecordingFault → Hearing S O T N B → Type 0
HearsLine offered last o t old number word numbers result new =
    (is_cut : Bool) (before : List Line) → FollowsLines offered last old is_cut before → length before + 1 ≡ number →
    MatchResult result
    (λ found. MatchOption found (FollowsLines offered last new is_cut (before ++ line word numbers ∷ []))
    (λ finding. FollowsLines offered last new is_cut before × IsNotLawful finding × IsFindingWithin old.witness.limit (lines_text (before ++ line word numbers ∷ [])) finding))
    (λ e. RefusesNextLine offered last old.witness.limit o t is_cut before number (line word numbers) e new)
