-- Lines given by numbers.
use Rattle.std.proofs.Common.{◌≡◌, ◌≢◌, ◌∙◌, ℕ, zero, suc, ◌+◌, ◌<◌, ◌≤◌, false, List, [], ◌∷◌, ◌++◌, Option, Some, None, Result, Ok, Err, length, take, drop, get_or, refl, sym, ap, ap₂, subst, arith}
use Rattle.std.specs.Prelude.{IfOk, IfSome}
use Rattle.std.proofs.lemmas.Option.{same_Some}
use Rattle.queue_calls.specs.Hearings.{FollowsLines, HearsLine, IsNotLawful}
use Rattle.call_lines.specs.Lines.{line_text, word_of, AllowsQueue, AreSmall}
use Rattle.queue_calls.specs.Recordings.{Line, line, AreLines, capacity_told}
use Rattle.queue_calls.specs.RecordingStates.{HasHeard}
use Rattle.call_causes.specs.declared.entries.Offered.{Offered}
use Rattle.call_causes.specs.declared.entries.Taken.{Taken}
use Rattle.queue_calls.specs.declared.hearings.Hearing.{Hearing}
use Rattle.queue_calls.specs.declared.hearings.Begun.TheVariants.{Nothing}
use Rattle.call_lines.specs.declared.lines.Word.{Word}
use Rattle.call_lines.specs.declared.lines.Word.TheVariants.{Queue}
use Rattle.queue_calls.specs.declared.recordings.CallsFinding.{CallsFinding}
use Rattle.queue_calls.specs.declared.recordings.CallsFinding.TheVariants.{Lawful, OutOfTurn, NotLinearizable}
use Rattle.queue_calls.specs.declared.faults.RecordingFault.{RecordingFault}
use Rattle.queue_calls.specs.declared.faults.RecordingFault.TheVariants.{BadLine, TooLong, OutOfMemory}
use Rattle.queue_calls.proofs.HeardLines.{first_heard, first_line}
use Rattle.queue_calls_c.specs.Heard.{TellsLine, TellLines, SaysOf, StopsWith, HearsSome, found_of}
use Rattle.queue_calls_c.specs.declared.hearings.WordLine.{WordLine}

-- a line is given in one way
told_once : (next : WordLine) (numbers : List ℕ) (word : Word) (own : List ℕ) (l : Line) → word_of next.word ≡ Some word → own ≡ take next.count numbers → TellsLine next numbers l → l ≡ line word own
told_once next numbers word own l is own_is told = ap₂ line (same_Some l.word word (sym told.0 ∙ is)) (told.1 ∙ sym own_is)

-- the verdict of a hearing on a line is that on the line as it is given
pub says_of :
    {S O T N B : Type 0} (offered : O → List Offered) (last : T → List Taken) (o t : ℕ) (old new : Hearing S O T N B) (before : List Line) (number : ℕ) (next : WordLine) (numbers : List ℕ) (word : Word) (own : List ℕ)
    (result : Result (Option CallsFinding) RecordingFault) → word_of next.word ≡ Some word → own ≡ take next.count numbers → FollowsLines offered last old false before → length before + 1 ≡ number →
    HearsLine offered last o t old number word own result new → SaysOf old.witness.limit o t (FollowsLines offered last new false) before next numbers result
says_of offered last o t old new before number next numbers word own (Ok None) is own_is follows count hears = (line word own, (is, own_is), hears false before follows count)
says_of offered last o t old new before number next numbers word own (Ok (Some finding)) is own_is follows count hears =
    let h = hears false before follows count in (h.0, h.1, line word own, (is, own_is), h.2)
says_of offered last o t old new before number next numbers word own (Err (BadLine bad)) is own_is follows count hears =
    let h = hears false before follows count in
    (h.1, h.0 ∙ sym count, λ l told are. h.2 (subst (λ x. AreLines (before ++ x ∷ [])) (told_once next numbers word own l is own_is told) are))
says_of offered last o t old new before number next numbers word own (Err TooLong) is own_is follows count hears = absurd (hears false before follows count)
says_of offered last o t old new before number next numbers word own (Err OutOfMemory) is own_is follows count hears = (line word own, (is, own_is), hears false before follows count)

-- one more line is given
pub told_more :
    (lines : List WordLine) (numbers : List ℕ) (heard : List Line) (rest : List ℕ) (next : WordLine) (l : Line) → TellLines lines numbers heard rest → TellsLine next rest l →
    TellLines (lines ++ next ∷ []) numbers (heard ++ l ∷ []) (drop next.count rest)
told_more [] numbers [] rest next l are told = ((told.0, told.1 ∙ ap (λ ns. take next.count ns) are), ap (λ ns. drop next.count ns) are)
told_more [] numbers (h ∷ heard) rest next l are told = absurd are
told_more (first ∷ lines) numbers [] rest next l are told = absurd are
told_more (first ∷ lines) numbers (h ∷ heard) rest next l are told = (are.0, told_more lines (drop first.count numbers) heard rest next l are.1 told)

-- the verdict is not 6, that there is no state: the finding is not lawful
pub not_six : (room : ℕ) (said : Result (Option CallsFinding) RecordingFault) → IfOk said (λ found. IfSome found IsNotLawful) → (found_of room said).verdict ≢ 6
not_six room (Ok None) not e = absurd (omega (arith, e))
not_six room (Ok (Some (Lawful report))) not e = not
not_six room (Ok (Some (OutOfTurn number))) not e = absurd (omega (arith, e))
not_six room (Ok (Some (NotLinearizable number cause))) not e = absurd (omega (arith, e))
not_six room (Err (BadLine number)) not e = absurd (omega (arith, e))
not_six room (Err TooLong) not e = absurd (omega (arith, e))
not_six room (Err OutOfMemory) not e = absurd (omega (arith, e))

-- ---- lines that are followed

module _ (m o t : ℕ) where
  pub says_map :
      (F G : List Line → Type 0) (heard : List Line) (next : WordLine) (numbers : List ℕ) (said : Result (Option CallsFinding) RecordingFault) → said ≢ Ok None → (F heard → G heard) →
      SaysOf m o t F heard next numbers said → SaysOf m o t G heard next numbers said
  says_map F G heard next numbers (Ok None) other f s = absurd (other refl)
  says_map F G heard next numbers (Ok (Some finding)) other f s = (f s.0, s.1, s.2, s.3, s.4)
  says_map F G heard next numbers (Err (BadLine number)) other f s = (f s.0, s.1, s.2)
  says_map F G heard next numbers (Err TooLong) other f s = (f s.0, s.1)
  says_map F G heard next numbers (Err OutOfMemory) other f s = s

  stops_map :
      (F G : List Line → Type 0) (heard : List Line) (lines : List WordLine) (rest : List ℕ) (said : Result (Option CallsFinding) RecordingFault) → (F heard → G heard) →
      StopsWith m o t F heard lines rest said → StopsWith m o t G heard lines rest said
  stops_map F G heard [] rest said f s = (s.0, f s.1)
  stops_map F G heard (next ∷ more) rest said f s = (s.0, says_map F G heard next rest said s.0 f s.1)

  pub some_map :
      (F G : List Line → Type 0) (before : List Line) (lines : List WordLine) (numbers : List ℕ) (count : ℕ) (said : Result (Option CallsFinding) RecordingFault) → ((ls : List Line) → F ls → G ls) →
      HearsSome m o t F before lines numbers count said → HearsSome m o t G before lines numbers count said
  some_map F G before lines numbers count said f s = record {
    heard = s.heard;
    rest = s.rest;
    few = s.few;
    told = s.told;
    stops = stops_map F G (before ++ s.heard) (drop count lines) s.rest said (f (before ++ s.heard)) s.stops;
  }

  -- there is a next line, with a verdict
  stops_at :
      (F : List Line → Type 0) (heard : List Line) (lines : List WordLine) (count : ℕ) (d : WordLine) (rest : List ℕ) (said : Result (Option CallsFinding) RecordingFault) → count < length lines → said ≢ Ok None →
      SaysOf m o t F heard (get_or lines count d) rest said → StopsWith m o t F heard (drop count lines) rest said
  stops_at F heard [] count d rest said l other s = absurd (omega (arith, l))
  stops_at F heard (next ∷ more) zero d rest said l other s = (other, s)
  stops_at F heard (next ∷ more) (suc count) d rest said l other s = stops_at F heard more count d rest said (omega (arith, l)) other s

  -- there is none
  stops_none :
      (F : List Line → Type 0) (heard : List Line) (lines : List WordLine) (count : ℕ) (rest : List ℕ) → length lines ≤ count → F heard → StopsWith m o t F heard (drop count lines) rest (Ok None)
  stops_none F heard [] zero rest l f = (refl, f)
  stops_none F heard [] (suc count) rest l f = (refl, f)
  stops_none F heard (next ∷ more) zero rest l f = absurd (omega (arith, l))
  stops_none F heard (next ∷ more) (suc count) rest l f = stops_none F heard more count rest (omega (arith, l)) f

  -- this many were heard, and this is the verdict on the next one
  pub hears_at :
      (F : List Line → Type 0) (before heard : List Line) (lines : List WordLine) (numbers : List ℕ) (count : ℕ) (d : WordLine) (rest : List ℕ) (said : Result (Option CallsFinding) RecordingFault) →
      count < length lines → TellLines (take count lines) numbers heard rest → said ≢ Ok None → SaysOf m o t F (before ++ heard) (get_or lines count d) rest said →
      HearsSome m o t F before lines numbers count said
  hears_at F before heard lines numbers count d rest said within told other says =
      record { heard = heard; rest = rest; few = omega (arith, within); told = told; stops = stops_at F (before ++ heard) lines count d rest said within other says }

  -- and if all were
  pub hears_all :
      (F : List Line → Type 0) (before heard : List Line) (lines : List WordLine) (numbers : List ℕ) (count : ℕ) (rest : List ℕ) → length lines ≤ count → count ≤ length lines →
      TellLines (take count lines) numbers heard rest → F (before ++ heard) → HearsSome m o t F before lines numbers count (Ok None)
  hears_all F before heard lines numbers count rest all few told f =
      record { heard = heard; rest = rest; few = few; told = told; stops = stops_none F (before ++ heard) lines count rest all f }

-- the lines before this one, and this one
pub with_next : (lines : List WordLine) (count : ℕ) (d : WordLine) → count < length lines → take count lines ++ get_or lines count d ∷ [] ≡ take (suc count) lines
with_next [] count d l = absurd (omega (arith, l))
with_next (next ∷ more) zero d l = refl
with_next (next ∷ more) (suc count) d l = ap (λ ls. next ∷ ls) (with_next more count d (omega (arith, l)))

-- ---- the first line

pub begins_with :
    {S O T N B : Type 0} (offered : O → List Offered) (last : T → List Taken) (hearing : Hearing S O T N B) (numbers : List ℕ) → AreSmall numbers → AllowsQueue numbers → hearing.begun ≡ Nothing → hearing.fault ≡ None →
    HasHeard offered last hearing (capacity_told numbers) [] → FollowsLines offered last hearing false (line Queue numbers ∷ [])
begins_with offered last hearing numbers small allowed begun none heard = (
  (first_line [] (line_text Queue numbers) numbers false refl (record { text = refl; allowed = allowed; small = small })).0,
  first_heard offered last hearing [] false numbers refl begun heard,
  none,
)
