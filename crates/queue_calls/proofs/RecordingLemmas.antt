-- The text of a recording, line by line: where a line ends, and what its end shows.
use Rattle.std.proofs.Common.{◌≡◌, ◌≢◌, Bool, Option, Some, None, ℕ, ◌+◌, ◌-◌, ◌^◌, ◌≤◌, List, [], ◌∷◌, ◌++◌, length, refl, ap, sym, subst, ◌∙◌, append_assoc, length-append, arith}
use Rattle.std.proofs.lemmas.Grind.{flat_map-append}
use Rattle.std.proofs.lemmas.List.{append-nil}
use Rattle.queue_calls.proofs.Common.{All-append, All-nil, line_text, Capacity, Event, Offered, Taken, Hearing}
use Rattle.queue_calls.specs.Recordings.{Line, text_of, lines_text, AreLines, capacity_told, events_told, IsBadLine, RefusesText, IsFoundWithin, IsFindingOf, IsFindingWithin, IsFaultOf}
use Rattle.line_parts.specs.LineEnds.{HasNoFeed}
use Rattle.queue_calls.specs.RecordingStates.{HasLines, HasRead, HeardLines, HasHeard, IsFaultSoFar, RefusesLine}
use Rattle.call_causes.specs.declared.entries.TheConstants.{TAKEN_LIMIT}
use Rattle.queue_calls.specs.declared.hearings.Begun.TheVariants.{Nothing}
use Rattle.queue_calls.specs.declared.recordings.CallsFinding.{CallsFinding}
use Rattle.queue_calls.specs.declared.recordings.CallsFinding.TheVariants.{Lawful, OutOfTurn, NotLinearizable}
use Rattle.queue_calls.specs.declared.recordings.Lines.{Lines}
use Rattle.queue_calls.specs.declared.recordings.RecordingIn.{RecordingIn}
use Rattle.queue_calls.specs.declared.faults.RecordingFault.{RecordingFault}
use Rattle.queue_calls.specs.declared.faults.RecordingFault.TheVariants.{BadLine, TooLong, OutOfMemory}
use Rattle.line_parts.proofs.LineFeeds.{feed_nowhere, feed_once}
use Rattle.call_lines.proofs.BeginningLemmas.{nothing_begun}
use Rattle.call_lines.proofs.LineLemmas.{line_no_feed}
use Rattle.queue_calls.proofs.HeardLines.{is_line}
use Rattle.queue_calls.proofs.HearingLemmas.{report_of, heard_lawful}

-- ---- lines

-- the text of a line, and what comes after it
pub line_and : (l : Line) (more : List ℕ) → text_of l ++ more ≡ line_text l.word l.numbers ++ 10 ∷ more
line_and l more = append_assoc (line_text l.word l.numbers) (10 ∷ []) more

pub lines_more : (before : List Line) (l : Line) → lines_text (before ++ l ∷ []) ≡ lines_text before ++ text_of l
lines_more before l = flat_map-append text_of before (l ∷ []) ∙ ap (λ (t : List ℕ). lines_text before ++ t) (append-nil (text_of l))

-- a line has a byte
many_bytes : (lines : List Line) → length lines ≤ length (lines_text lines)
many_bytes [] = omega arith
many_bytes (l ∷ lines) = grind (arith, length, length-append, many_bytes lines)

pub too_long : (before : List Line) (bytes more : List ℕ) → bytes ≡ lines_text before ++ more → 2 ^ 64 - 1 ≤ length before → 2 ^ 64 - 1 ≤ length bytes
too_long before bytes more text long = grind (arith, length, length-append, many_bytes)

-- ---- a line that ends

-- the bytes of a line that ends, after lines
pub ended_text : (before : List Line) (bytes cut end more : List ℕ) → bytes ≡ lines_text before ++ cut → bytes ++ (end ++ 10 ∷ more) ≡ lines_text before ++ ((cut ++ end) ++ 10 ∷ more)
ended_text before bytes cut end more text = grind (arith, append_assoc)

-- nothing was read
pub nothing_read : {S O T N B : Type 0} (offered : O → List Offered) (last : T → List Taken) (bytes_of : B → List ℕ) (new : RecordingIn S O T N B) → bytes_of new.cut ≡ [] → new.begun ≡ 0 → HasLines offered last new.lines [] → HasRead offered last bytes_of new []
nothing_read offered last bytes_of new none zero lines = grind (arith, All-nil, nothing_begun)

-- a line was read, and no byte of another one
pub line_ended : {S O T N B : Type 0} (offered : O → List Offered) (last : T → List Taken) (bytes_of : B → List ℕ) (old new : RecordingIn S O T N B) (bytes end : List ℕ) (has : HasRead offered last bytes_of old bytes) (l : Line)
    → bytes_of old.cut ++ end ≡ line_text l.word l.numbers → bytes_of new.cut ≡ [] → new.begun ≡ 0 → HasLines offered last new.lines (has.ended ++ l ∷ []) → HasRead offered last bytes_of new (bytes ++ end ++ 10 ∷ [])
line_ended offered last bytes_of old new bytes end has l is none zero lines =
    grind (arith, append_assoc bytes end (10 ∷ []), ended_text has.ended bytes (bytes_of old.cut) end, lines_more has.ended l, append-nil (lines_text (has.ended ++ l ∷ [])), All-nil, nothing_begun, length (has.ended ++ l ∷ []))

-- ---- refusals

pub end_refused : (fault : RecordingFault) (before : List Line) (bytes cut end more : List ℕ) → bytes ≡ lines_text before ++ cut → AreLines before → HasNoFeed cut → HasNoFeed end
    → RefusesLine fault before (cut ++ end) → RefusesText fault (bytes ++ (end ++ 10 ∷ more))
end_refused (BadLine number) before bytes cut end more text are none free refused = record {
  before = before;
  rest = (cut ++ end) ++ 10 ∷ more;
  text = ended_text before bytes cut end more text;
  are = are;
  is_number = refused.0;
  is_bad = λ l others on e.
      let is = is_line before (line_text l.word l.numbers) l (on, refl) in
      let same = feed_once (cut ++ end) (line_text l.word l.numbers) more others (All-append (λ c. c ≢ 10) cut end none free) (line_no_feed (line_text l.word l.numbers) l.word l.numbers is) (e ∙ line_and l others) in
      refused.1 l (on, same.0);
  is_there = λ nothing. absurd (omega (arith, sym (length-append (cut ++ end) (10 ∷ more)) ∙ ap length nothing));
}
end_refused TooLong before bytes cut end more text are none free refused = too_long before (bytes ++ (end ++ 10 ∷ more)) _ (ended_text before bytes cut end more text) (omega (arith, refused))
end_refused OutOfMemory before bytes cut end more text are none free refused = tt

-- at the end of the text
pub cut_refused : (before : List Line) (bytes cut : List ℕ) (number : ℕ) → bytes ≡ lines_text before ++ cut → AreLines before → HasNoFeed cut → length before + 1 ≡ number → (cut ≡ [] → before ≡ []) → IsBadLine bytes number
cut_refused before bytes cut number text are none is there = record {
  before = before;
  rest = cut;
  text = text;
  are = are;
  is_number = is;
  is_bad = λ l more on e. feed_nowhere cut (line_text l.word l.numbers) more none (e ∙ line_and l more);
  is_there = there;
}

-- ---- findings

pub found : {S O T N B : Type 0} (offered : O → List Offered) (last : T → List Taken) (limit : ℕ) (hearing : Hearing S O T N B) (is_cut : Bool) (finding : CallsFinding) (ended : List Line) (bytes cut : List ℕ) → bytes ≡ lines_text ended ++ cut → cut ≡ [] → AreLines ended → HeardLines offered last hearing is_cut ended
    → ((capacity : Capacity) (events : List Event) → HasHeard offered last hearing capacity events → IsFoundWithin limit capacity events finding) → IsFindingWithin limit bytes finding
found offered last limit hearing is_cut finding ended bytes cut text none are heard finds = grind (arith, append-nil)

-- the first fault of lines that have ended, or none
fault_is :
    {S O T N B : Type 0} (offered : O → List Offered) (last : T → List Taken) (hearing : Hearing S O T N B) (is_cut : Bool) (ended : List Line) → hearing.witness.limit ≡ TAKEN_LIMIT → AreLines ended →
    HeardLines offered last hearing is_cut ended → (fault : Option CallsFinding) → hearing.fault ≡ fault → IsFaultOf (lines_text ended) fault
fault_is offered last hearing is_cut ended limit are heard fault is =
    let SoFar : Capacity → List Event → Option CallsFinding → Type 0 = λ capacity events f. IsFaultSoFar offered last f hearing.witness hearing.tally capacity events in
    let finds : (finding : CallsFinding) → ((capacity : Capacity) (events : List Event) → SoFar capacity events fault → IsFoundWithin hearing.witness.limit capacity events finding) → IsFindingOf (lines_text ended) finding =
    λ finding holds.
    subst (λ n. IsFindingWithin n (lines_text ended) finding) limit
    (found offered last hearing.witness.limit hearing is_cut finding ended (lines_text ended) [] (sym (append-nil (lines_text ended))) refl are heard (λ capacity events h. holds capacity events (subst (SoFar capacity events) is h))) in
    elim fault as (λ f. f ≡ fault → IsFaultOf (lines_text ended) f) [
      | None ↦ λ same some. (
        report_of hearing.witness hearing.tally,
        finds (Lawful (report_of hearing.witness hearing.tally)) (λ capacity events h.
            let (remembers, tallied) = subst (SoFar capacity events) (sym same) h in
            heard_lawful offered last capacity events hearing.witness.limit hearing.witness hearing.tally remembers tallied),
      )
      | Some (Lawful report) ↦ λ same. subst (SoFar (capacity_told heard.0) (events_told Nothing heard.1)) (is ∙ sym same) heard.4
      | Some (OutOfTurn number) ↦ λ same. finds (OutOfTurn number) (λ capacity events h. subst (SoFar capacity events) (sym same) h)
      | Some (NotLinearizable number cause) ↦ λ same. finds (NotLinearizable number cause) (λ capacity events h. subst (SoFar capacity events) (sym same) h)
    ] refl

pub fault_found :
    {S O T N B : Type 0} (offered : O → List Offered) (last : T → List Taken) (lines : Lines S O T N B) (ended : List Line) → HasLines offered last lines ended →
    IsFaultOf (lines_text ended) lines.hearing.fault
fault_found offered last lines [] has = subst (IsFaultOf []) (sym (has.unheard refl)) (λ some. absurd (some refl))
fault_found offered last lines (l ∷ more) has =
    fault_is offered last lines.hearing lines.lacks_calls (l ∷ more) has.limit has.are (has.heard (λ none. absurd (omega (arith, ap length none)))) lines.hearing.fault refl
