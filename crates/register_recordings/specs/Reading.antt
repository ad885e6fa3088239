-- What is kept of a recording of a register that is being read.
use Rattle.std.specs.Prelude.{◌≡◌, ℕ, ◌+◌, ◌-◌, ◌^◌, ◌≤◌, List, [], ◌∷◌, ◌++◌, Option, Some, None, Result, MatchResult, length, reverse}
use Rattle.std.specs.List.{filter_map}
use Rattle.line_parts.specs.LineEnds.{HasNoFeed}
use Rattle.register_calls.specs.declared.auditors.ReaderState.{ReaderState}
use Rattle.register_calls.specs.declared.events.Register.{Register}
use Rattle.register_calls.specs.declared.events.RegisterEvent.{RegisterEvent}
use Rattle.register_calls.specs.declared.chains.Chain.{Chain}
use Rattle.register_calls.specs.Witnesses.{RemembersRegister}
use Rattle.register_calls.specs.Histories.{WritesValue}
use Rattle.register_lines.specs.Lines.{register_line_text}
use Rattle.register_lines.specs.declared.lines.RegisterLine.{RegisterLine}
use Rattle.register_lines.specs.declared.lines.TheConstants.{LINE_LIMIT}
use Rattle.register_recordings.specs.declared.faults.RegisterTextFault.{RegisterTextFault}
use Rattle.register_recordings.specs.declared.faults.RegisterTextFault.TheVariants.{BadLine, TooLong, OutOfMemory}
use Rattle.register_recordings.specs.declared.recordings.JudgedLines.{JudgedLines}
use Rattle.register_recordings.specs.declared.recordings.RegisterRecording.{RegisterRecording}
use Rattle.register_recordings.specs.Misses.{AreMisses}
use Rattle.register_recordings.specs.Recordings.{recorded_event, recorded_register, lacks_operations, register_text, AreRegisterLines, LeavesTurn}

-- the events of the lines after the first one were read: all of them, or those before the first that is out of turn
abbrev pub HasReadEvents : {W R P C : Type 0} → (window : W → List ℕ) → (states : R → List ReaderState) → (places : P → List ℕ) → (chains : C → List Chain) → JudgedLines W R P C → Option ℕ → List RegisterEvent → Type 0
HasReadEvents window states places chains lines None events = RemembersRegister window states places chains lines.witness (reverse events) × AreMisses lines.witness.auditor.register events lines.misses
HasReadEvents window states places chains lines (Some number) events = LeavesTurn lines.witness.auditor.register events number

-- these lines have ended, of which there may be none
pub record HasJudged {W R P C : Type 0} (window : W → List ℕ) (states : R → List ReaderState) (places : P → List ℕ) (chains : C → List Chain) (lines : JudgedLines W R P C) (ended : List RegisterLine) : Type 0 where
  pub are : AreRegisterLines ended
  pub count : lines.count ≡ length ended
  pub events :
      (head : RegisterLine) (further : List RegisterLine) → ended ≡ head ∷ further →
      (recorded_register head ≡ Some lines.witness.auditor.register) × (lacks_operations head ≡ lines.is_cut) × HasReadEvents window states places chains lines lines.out_of_turn (filter_map recorded_event further)

-- bytes without a line feed are a line that continues these lines
abbrev pub ContinuesRegister : List RegisterLine → List ℕ → RegisterLine → Type 0
ContinuesRegister before bytes l = AreRegisterLines (before ++ l ∷ []) × (bytes ≡ register_line_text l)

-- why a line is refused after lines
abbrev pub RefusesRegisterLine : RegisterTextFault → List RegisterLine → List ℕ → Type 0
RefusesRegisterLine (BadLine number) before bytes = (length before + 1 ≡ number) × ((l : RegisterLine) → ¬ ContinuesRegister before bytes l)
RefusesRegisterLine TooLong before bytes = 2 ^ 64 - 1 ≤ length before
RefusesRegisterLine OutOfMemory before bytes = Unit {0}

-- why a line is refused as the first one
abbrev pub RefusesFirstLine : RegisterTextFault → RegisterLine → Type 0
RefusesFirstLine (BadLine number) l = (number ≡ 1) × (recorded_register l ≡ None)
RefusesFirstLine TooLong l = ⊥
RefusesFirstLine OutOfMemory l = Unit {0}

-- an event was read after these, of the line with this number
pub record HasReadLineEvent {W R P C : Type 0} (window : W → List ℕ) (states : R → List ReaderState) (places : P → List ℕ) (chains : C → List Chain) (old : JudgedLines W R P C) (number : ℕ) (event : RegisterEvent) (before : List RegisterEvent) (new : JudgedLines W R P C) : Type 0 where
  pub count : new.count ≡ number
  pub is_cut : new.is_cut ≡ old.is_cut
  pub register : new.witness.auditor.register ≡ old.witness.auditor.register
  pub value : WritesValue old.witness.auditor.register event
  pub events : HasReadEvents window states places chains new new.out_of_turn (before ++ event ∷ [])

-- why an event after these, of the line with this number, is refused
abbrev pub RefusesLineEvent : (number : ℕ) → RegisterTextFault → Register → List RegisterEvent → RegisterEvent → Type 0
RefusesLineEvent number (BadLine line) r before event = (line ≡ number) × ¬ WritesValue r event
RefusesLineEvent number TooLong r before event = 2 ^ 64 - 1 ≤ length before
RefusesLineEvent number OutOfMemory r before event = Unit {0}

-- after any events that were read, the event of the next line, which has this number, is read or refused
abbrev pub ReadsLineEvent :
    {W R P C T : Type 0} → (window : W → List ℕ) → (states : R → List ReaderState) → (places : P → List ℕ) → (chains : C → List Chain) →
    JudgedLines W R P C → (number : ℕ) → RegisterEvent → Result T RegisterTextFault → JudgedLines W R P C → Type 0
ReadsLineEvent window states places chains old number event result new =
    (before : List RegisterEvent) → length before + 2 ≡ number → HasReadEvents window states places chains old old.out_of_turn before →
    MatchResult result (λ _. HasReadLineEvent window states places chains old number event before new)
    (λ fault. RefusesLineEvent number fault old.witness.auditor.register before event)

-- these bytes were read: lines that have ended, and the bytes of one that has not, which are no more than a line has
pub record HasReadRegister {W R P C B : Type 0} (window : W → List ℕ) (states : R → List ReaderState) (places : P → List ℕ) (chains : C → List Chain) (bytes_of : B → List ℕ) (recording : RegisterRecording W R P C B) (bytes : List ℕ) : Type 0 where
  pub ended : List RegisterLine
  pub text : bytes ≡ register_text ended ++ bytes_of recording.cut
  pub no_feed : HasNoFeed (bytes_of recording.cut)
  pub few : length (bytes_of recording.cut) ≤ LINE_LIMIT
  pub lines : HasJudged window states places chains recording.lines ended
