-- The program's answer to a request on an input, and how the program ends.
use Rattle.std.specs.Prelude.{◌≡◌, ◌≢◌, ◌⊎◌, ◌<◌, ◌≤◌, ◌+◌, ◌++◌, ℕ, Bool, true, false, List, [], Option, Some, None, IfSome, codes, length, take}
use Rattle.std.specs.Io.KnownBytes.{Appends, Keeps}
use Rattle.clap.specs.Kinds.{IsAmong, Kinds}
use Rattle.clap.specs.declared.error.kind.ErrorKind.{ErrorKind}
use Rattle.clap.specs.declared.error.kind.ErrorKind.TheVariants as kind
use Rattle.bits_core.specs.Audit.{IsVerdict}
use Rattle.trace_text.specs.Trace.{IsTrace, IsTraceFault, IsTraceText, RefusesTraceText}
use Rattle.bits_core.specs.declared.audits.Verdict.{Verdict}
use Rattle.bits_core.specs.declared.audits.Verdict.TheVariants.{Lawful, Fault}
use Rattle.bits_core.specs.declared.events.Event.{Event}
use Rattle.bits_core.specs.declared.shapes.Shape.{Shape}
use Rattle.bits_core.specs.declared.faults.ShapeFault.{ShapeFault}
use Rattle.bits_core.specs.Shape.{HasBatches, IsRefusedBatches, capacity_of}
use Rattle.bits_core.specs.Made.{IsPrefix}
use Rattle.trace_text.specs.declared.faults.TraceFault.{TraceFault}
use Rattle.trace_text.specs.declared.faults.TraceFault.TheVariants as trace
use Rattle.near_misses.specs.NearPlays.{IsNearPlay}
use Rattle.queue_calls.specs.Queue.{exactly}
use Rattle.queue_calls.specs.Recordings.{IsRecording, RefusesText}
use Rattle.queue_calls.specs.declared.faults.RecordingFault.{RecordingFault}
use Rattle.ring_audit.specs.Audit.{IsFinding, SaysLinearizable, SaysSentence, Statement}
use Rattle.ring_core.specs.Linear.{EachReadingIsLinearizable}
use Rattle.ring_player.specs.Headline.{IsPlayOf}
use Rattle.ring_player.specs.Tellings.{RecordsPlay, call_events}
use Rattle.ring_player.specs.declared.tellings.TakenItems.{TakenItems}
use Rattle.queue_calls.specs.declared.events.CallEvent.{CallEvent}
use Rattle.ring_script.specs.Faults.{IsScriptFault}
use Rattle.ring_script.specs.Content.{Content}
use Rattle.ring_script.specs.Script.{IsScript}
use Rattle.ring_script.specs.declared.faults.ScriptFault.{ScriptFault}
use Rattle.ring_script.specs.declared.faults.ScriptFault.TheVariants as script
use Rattle.ring_program.specs.Faults.{SaysRefusal, refusal_line}
use Rattle.register_recordings.specs.Recordings.{RefusesRegisterText}
use Rattle.register_recordings.specs.declared.faults.RegisterTextFault.{RegisterTextFault}
use Rattle.ring_program.specs.Readings.{AnswersCalls}
use Rattle.ring_program.specs.Registers.{AnswersRegister}
use Rattle.ring_program.specs.Reports.{Reports}
use Rattle.ring_run.specs.Relays.{IsRelayed}
use Rattle.ring_program.specs.RunRecordings.{RecordsRun, run_counts}
use Rattle.ring_program.specs.Runs.{run_items}
use Rattle.ring_program.specs.Texts.{Summary, audit_text_of, near_calls, relay_report_of, relay_text_of, report_text_of, told_text_of, verdict_text_of}
use Rattle.ring_program.specs.Why.{TellsWhy, verdict_in}
use Rattle.ring_program.specs.declared.inputs.TheConstants.{INPUT_LIMIT}
use Rattle.ring_program.specs.declared.answers.Ending.{Ending}
use Rattle.ring_program.specs.declared.answers.Ending.TheVariants.{Done, FaultFound, LimitReached}
use Rattle.ring_program.specs.declared.command_line.Audited.{Audited}
use Rattle.ring_program.specs.declared.command_line.Audited.TheVariants.{Programs, Bits}
use Rattle.ring_program.specs.declared.command_line.PlayText.{PlayText}
use Rattle.ring_program.specs.declared.command_line.PlayText.TheVariants as shown
use Rattle.ring_program.specs.declared.command_line.Question.TheVariants.{Audit, Play}
use Rattle.ring_program.specs.declared.command_line.Request.{Request}
use Rattle.ring_program.specs.declared.command_line.Request.TheVariants.{OnInput}
use Rattle.ring_program.specs.declared.command_line.Request.TheVariants as request
use Rattle.ring_program.specs.declared.run_line.Run.{Run}
use Rattle.ring_program.specs.declared.run_line.RunText.{RunText}
use Rattle.ring_program.specs.declared.run_line.RunText.TheVariants.{Totals, Report, Recording}
use Rattle.ring_program.specs.declared.faults.AppFault.TheVariants as app
use Rattle.ring_program.specs.declared.faults.Refusal.{Refusal}
use Rattle.ring_program.specs.declared.faults.Refusal.TheVariants as refusal

-- the exit status that goes with an ending
abbrev pub status_of : Ending → ℕ
status_of Done = 0
status_of LimitReached = 1
status_of FaultFound = 3

-- the text on standard error for an ending: that a limit was reached
abbrev pub ending_words : Ending → List ℕ
ending_words Done = []
ending_words LimitReached = codes "refused: limit reached\n"
ending_words FaultFound = []

-- how an audit with this verdict ends
abbrev pub verdict_ending_of : Verdict → Ending
verdict_ending_of Lawful = Done
verdict_ending_of (Fault place kind) = FaultFound

-- how a run ends, by whether a take returned Closed
abbrev pub relay_ending_of : Bool → Ending
relay_ending_of true = Done
relay_ending_of false = LimitReached

-- The finding on the events of a trace, with these words, and the verdict in it: on its bits, or on them and on the
-- programs of its two sides. Lists that it reports satisfy the main theorem, and their calls are linearizable
abbrev pub IsJudged : Audited → Shape → List Event → (words : List ℕ) → Verdict → Type 0
IsJudged Bits shape events words verdict = IsVerdict shape events verdict × (words ≡ verdict_text_of verdict)
IsJudged Programs shape events words verdict =
    (found : Statement) × IsFinding shape events found × SaysSentence shape events found
    × SaysLinearizable shape events found × (words ≡ audit_text_of found) × (verdict ≡ verdict_in found)

-- the words alone; or followed by lines with the reason for the event at fault
abbrev pub TellsJudged : (why : Bool) → Shape → List Event → Verdict → (words text : List ℕ) → Type 0
TellsJudged false shape events verdict words text = text ≡ words
TellsJudged true shape events verdict words text =
    (more : List ℕ) × (text ≡ words ++ more) × TellsWhy shape events verdict more

-- the input is a trace, as it is read, and the text and the ending are those of the finding on it
pub record AuditsTrace (IsRead : List ℕ → Shape → List Event → Type 0) (what : Audited) (why : Bool) (input text : List ℕ) (ending : Ending) : Type 0 where
  pub shape : Shape
  pub events : List Event
  pub words : List ℕ
  pub verdict : Verdict
  pub is_trace : IsRead input shape events
  pub is_judged : IsJudged what shape events words verdict
  pub tells : TellsJudged why shape events verdict words text
  pub ends : ending ≡ verdict_ending_of verdict

-- The text of a play of the script by the letters of its schedule: a report; the trace of its history; or a recording of
-- its calls, for a queue of the ring's capacity, whose history is linearizable. For a play by a near miss it is the
-- trace; or a line with the ring's capacity and then one for each start and end of a recorded call
abbrev pub ShowsPlay : PlayText → Content → List ℕ → Type 0
ShowsPlay shown.Report script text =
    (history : List Event) × IsPlayOf script script.letters history × EachReadingIsLinearizable script.shape history
    × (summary : Summary) × Reports script history summary × (text ≡ report_text_of summary)
ShowsPlay (shown.Trace None) script text =
    (history : List Event) × IsPlayOf script script.letters history × EachReadingIsLinearizable script.shape history
    × IsTrace text script.shape history
ShowsPlay (shown.Calls None) script text =
    (history : List Event) × IsPlayOf script script.letters history × (told : List (CallEvent ℕ TakenItems))
    × RecordsPlay script history told × IsRecording text (exactly (capacity_of script.shape)) (call_events script told)
ShowsPlay (shown.Trace (Some miss)) script text =
    (history : List Event) × (told : List (CallEvent ℕ ℕ)) × (taken : List ℕ) × IsNearPlay miss script script.letters history told taken
    × IsTraceText text script.shape history
ShowsPlay (shown.Calls (Some miss)) script text =
    (history : List Event) × (told : List (CallEvent ℕ ℕ)) × (taken : List ℕ) × IsNearPlay miss script script.letters history told taken
    × (text ≡ told_text_of script (near_calls script taken told))

-- the input is a script, and the text is that of its play
pub record PlaysScript (shows : PlayText) (input text : List ℕ) (ending : Ending) : Type 0 where
  pub content : Content
  pub is_script : IsScript input content
  pub tells : ShowsPlay shows content text
  pub ends : ending ≡ Done

-- the text of a run of these items: how many were put and taken, or that and what was counted and timed; or a recording of its calls
abbrev pub TellsRun : RunText → Shape → List ℕ → ℕ → ℕ → ℕ → List ℕ → ℕ → ℕ → Bool → Option ℕ → List ℕ → Type 0
TellsRun Totals shape items put calls full taken takes empty closed time text = text ≡ relay_text_of put (length taken) closed
TellsRun Report shape items put calls full taken takes empty closed time text = text ≡ relay_report_of put calls full (length taken) empty closed time
TellsRun Recording shape items put calls full taken takes empty closed time text = RecordsRun shape items (run_counts items put calls full taken takes empty closed) text

-- the result of a run, in a ring with the shape of its numbers: it is counted in one lawful history whose two sides follow their
-- programs; the items taken are the first ones, in order, and all of them once a take has returned Closed. A take returned Closed, or
-- a side reached its limit. The text has the counts of the history, and some time that a clock returned, or none; or it is a
-- recording of the calls
pub record AnswersRun (run : Run) (text : List ℕ) (ending : Ending) : Type 0 where
  pub shape : Shape
  pub put : ℕ
  pub calls : ℕ
  pub full : ℕ
  pub taken : List ℕ
  pub takes : ℕ
  pub empty : ℕ
  pub closed : Bool
  pub time : Option ℕ
  pub of_numbers : HasBatches run.capacity run.modulus run.width run.batch run.take_batch shape
  pub relayed : IsRelayed shape (run_items run) run.limits.puts run.limits.takes put calls full taken takes empty closed
  pub prefix : IsPrefix taken (take put (run_items run))
  pub all : closed ≡ true → taken ≡ run_items run
  pub within : put ≤ length taken + run.capacity
  pub words : TellsRun run.text shape (run_items run) put calls full taken takes empty closed time text
  pub reached : (closed ≡ true) ⊎ ((calls ≡ run.limits.puts) ⊎ (length taken + empty ≡ run.limits.takes))
  pub ends : ending ≡ relay_ending_of closed

-- memory ran out, while a trace or a script was read or elsewhere
unfoldable pub IsOutOfMemory : Refusal → Type 0
IsOutOfMemory e = (e ≡ refusal.App app.OutOfMemory)
    ⊎ ((e ≡ refusal.Trace trace.OutOfMemory) ⊎ (e ≡ refusal.Script script.OutOfMemory))

-- a true cause of a refusal of a run: its numbers make no shape, or memory ran out, or there was no second thread, or calls that it should
-- have recorded were not recorded
abbrev pub IsRunCause : Run → Refusal → Type 0
IsRunCause run e = IsOutOfMemory e ⊎ (((e ≡ refusal.App app.NotOfRun) × (run.text ≡ Recording)) ⊎ ((e ≡ refusal.NoSecondThread)
    ⊎ ((fault : ShapeFault) × (e ≡ refusal.Shape fault) × IsRefusedBatches run.capacity run.modulus run.width run.batch run.take_batch fault)))

-- the request, on this input, is answered by this text and this ending; an input that is kept is not too large
abbrev pub Answers : Request → List ℕ → List ℕ → Ending → Type 0
Answers (OnInput (Audit what why)) input text ending =
    (length input ≤ INPUT_LIMIT) × AuditsTrace IsTrace what why input text ending
Answers (OnInput (Play shows)) input text ending = (length input ≤ INPUT_LIMIT) × PlaysScript shows input text ending
Answers (request.Calls stop) input text ending = AnswersCalls stop input text ending
Answers (request.Register question) input text ending = AnswersRegister question input text ending
Answers request.LongBits input text ending = AuditsTrace IsTraceText Bits false input text ending
Answers (request.Run run) input text ending = AnswersRun run text ending

-- how a request that was answered may end: only an audit may have found a fault, and only a run have reached a limit
abbrev pub MayEnd : Request → Ending → Type 0
MayEnd (OnInput (Audit what why)) ending = (ending ≡ Done) ⊎ (ending ≡ FaultFound)
MayEnd (OnInput (Play shows)) ending = ending ≡ Done
MayEnd (request.Calls stop) ending = (ending ≡ Done) ⊎ (ending ≡ FaultFound)
MayEnd (request.Register question) ending = (ending ≡ Done) ⊎ (ending ≡ FaultFound)
MayEnd request.LongBits ending = (ending ≡ Done) ⊎ (ending ≡ FaultFound)
MayEnd (request.Run run) ending = (ending ≡ Done) ⊎ (ending ≡ LimitReached)

-- the input is not a trace, for this cause
abbrev pub RefusesTrace : List ℕ → Refusal → Type 0
RefusesTrace input e = (fault : TraceFault) × (e ≡ refusal.Trace fault) × IsTraceFault input fault

-- the input is not a script, for this cause
abbrev pub RefusesScript : List ℕ → Refusal → Type 0
RefusesScript input e = (fault : ScriptFault) × (e ≡ refusal.Script fault) × IsScriptFault input fault

-- the input has more bytes than allowed
abbrev pub IsTooLarge : List ℕ → Refusal → Type 0
IsTooLarge input e = (e ≡ refusal.App app.TooLarge) × (INPUT_LIMIT < length input)

-- memory ran out, or a read failed
unfoldable pub IsShortage : Refusal → Type 0
IsShortage e = IsOutOfMemory e ⊎ (e ≡ refusal.App app.ReadFailed)

-- a true cause of a refusal of an input that is kept; only one that is not too large is refused for its text
abbrev pub IsKeptCause : (List ℕ → Refusal → Type 0) → List ℕ → Refusal → Type 0
IsKeptCause Refuses input e = IsShortage e ⊎ (IsTooLarge input e ⊎ ((length input ≤ INPUT_LIMIT) × Refuses input e))

-- a true cause of a refusal of recorded calls: memory ran out, or a read failed, or the input is not a recording
unfoldable pub IsCallsCause : List ℕ → Refusal → Type 0
IsCallsCause input e = (e ≡ refusal.App app.OutOfMemory) ⊎ ((e ≡ refusal.App app.ReadFailed)
    ⊎ ((fault : RecordingFault) × (e ≡ refusal.Calls fault) × RefusesText fault input))

-- a true cause of a refusal of a recorded register: memory ran out, or a read failed, or the input is not a recording
unfoldable pub IsRegisterCause : List ℕ → Refusal → Type 0
IsRegisterCause input e = (e ≡ refusal.App app.OutOfMemory) ⊎ ((e ≡ refusal.App app.ReadFailed)
    ⊎ ((fault : RegisterTextFault) × (e ≡ refusal.Register fault) × RefusesRegisterText fault input))

-- a true cause of a refusal of a trace of any length: memory ran out, or a read failed, or the input is not such a trace
unfoldable pub IsLongBitsCause : List ℕ → Refusal → Type 0
IsLongBitsCause input e = (e ≡ refusal.App app.OutOfMemory) ⊎ ((e ≡ refusal.App app.ReadFailed)
    ⊎ ((fault : TraceFault) × (e ≡ refusal.Trace fault) × RefusesTraceText input fault))

-- a true cause of a refusal of the request, on this input
abbrev pub IsTrueCause : Request → List ℕ → Refusal → Type 0
IsTrueCause (OnInput (Audit what why)) input e = IsKeptCause RefusesTrace input e
IsTrueCause (OnInput (Play shows)) input e = IsKeptCause RefusesScript input e
IsTrueCause (request.Calls stop) input e = IsCallsCause input e
IsTrueCause (request.Register question) input e = IsRegisterCause input e
IsTrueCause request.LongBits input e = IsLongBitsCause input e
IsTrueCause (request.Run run) input e = IsRunCause run e

-- ---- how the program ends: the output before and after, the text on standard error, and the status

-- a text was written: all of it, with the status of this ending, which was reported on standard error; or a write
-- failed after a prefix of it, and that was reported on standard error
abbrev pub Delivers : List ℕ → Ending → Option (List ℕ) → Option (List ℕ) → (List ℕ → Type 0) → ℕ → Type 0
Delivers text ending before after Tells status =
    ((status ≡ status_of ending) × Appends before after text × Tells (ending_words ending))
    ⊎ ((status ≡ 1) × Tells (refusal_line (refusal.App app.WriteFailed))
    × (count : ℕ) × Appends before after (take count text))

-- nothing was written, and the text of a refusal was reported on standard error, which is that of this cause
abbrev pub Declines : Refusal → Option (List ℕ) → Option (List ℕ) → (List ℕ → Type 0) → ℕ → Type 0
Declines e before after Tells status = (status ≡ 1) × Keeps before after × SaysRefusal Tells e

-- an answer to the request on this input was delivered, or the request was refused for a true cause
abbrev pub EndsOn : Request → List ℕ → Option (List ℕ) → Option (List ℕ) → (List ℕ → Type 0) → ℕ → Type 0
EndsOn asked input before after Tells status =
    ((text : List ℕ) × (ending : Ending) × Answers asked input text ending
    × Delivers text ending before after Tells status)
    ⊎ ((e : Refusal) × IsTrueCause asked input e × Declines e before after Tells status)

-- the same, if the reader says that this is its input; a run has none
abbrev pub Ends : Request → Option (List ℕ) → Option (List ℕ) → Option (List ℕ) → (List ℕ → Type 0) → ℕ → Type 0
Ends (request.Run run) input before after Tells status = EndsOn (request.Run run) [] before after Tells status
Ends asked input before after Tells status = IfSome input (λ bytes. EndsOn asked bytes before after Tells status)

-- help or the version was requested
abbrev pub IsHelp : ErrorKind → Type 0
IsHelp k = (k ≡ kind.DisplayHelp) ⊎ (k ≡ kind.DisplayVersion)

-- memory ran out before anything was written, and that was reported on standard error
abbrev pub NoMemory : Option (List ℕ) → Option (List ℕ) → (List ℕ → Type 0) → ℕ → Type 0
NoMemory before after Tells status = (status ≡ 1) × Keeps before after × Tells (refusal_line (refusal.App app.OutOfMemory))

-- some text was delivered, and the program is done
abbrev pub WasWritten : Option (List ℕ) → Option (List ℕ) → (List ℕ → Type 0) → ℕ → Type 0
WasWritten before after Tells status = (text : List ℕ) × Delivers text Done before after Tells status

-- how the program ends if the command line has an error of this kind
abbrev pub Explains : ErrorKind → Option (List ℕ) → Option (List ℕ) → (List ℕ → Type 0) → ℕ → Type 0
Explains k before after Tells status =
    ((k ≡ kind.OutOfMemory) × NoMemory before after Tells status)
    ⊎ ((IsHelp k × (NoMemory before after Tells status ⊎ WasWritten before after Tells status))
    ⊎ ((¬ IsHelp k) × (k ≢ kind.OutOfMemory) × (status ≡ 2) × Keeps before after))

-- help or the version was requested, and written
pub record HelpGiven (kinds : Kinds) (before after : Option (List ℕ)) (Tells : List ℕ → Type 0) (status : ℕ) : Type 0 where
  pub asked : ErrorKind
  pub among : IsAmong asked kinds
  pub is_help : IsHelp asked
  pub shown : WasWritten before after Tells status

-- the words are wrong, and nothing was written; what was reported on standard error is left open
pub record Mistaken (kinds : Kinds) (before after : Option (List ℕ)) (status : ℕ) : Type 0 where
  pub ends : status ≡ 2
  pub kept : Keeps before after
  pub mistake : (kinds ≡ []) ⊎ ((k : ErrorKind) × IsAmong k kinds × ¬ IsHelp k)

-- how the program ends if the words ask for nothing and have these faults
abbrev pub EndsUnasked : Kinds → Option (List ℕ) → Option (List ℕ) → (List ℕ → Type 0) → ℕ → Type 0
EndsUnasked kinds before after Tells status = NoMemory before after Tells status
    ⊎ (HelpGiven kinds before after Tells status ⊎ Mistaken kinds before after status)

-- the exit statuses of words that ask for this request or for nothing, whatever the reader and the writers do
abbrev pub IsStatus : Option Request → ℕ → Type 0
IsStatus (Some asked) status = (status ≡ 1) ⊎ ((ending : Ending) × MayEnd asked ending × (status ≡ status_of ending))
IsStatus None status = (status ≡ 0) ⊎ ((status ≡ 1) ⊎ (status ≡ 2))

-- the words ask nothing about an input
abbrev pub AsksNoInput : Option Request → Type 0
AsksNoInput None = Unit {0}
AsksNoInput (Some (request.Run run)) = Unit {0}
AsksNoInput (Some asked) = ⊥
