-- The program's own faults, the words of each refusal, and the messages on standard error.
use Rattle.std.specs.Prelude.{◌≡◌, ◌⊎◌, ℕ, Bool, true, false, List, [], ◌++◌, Option, codes, take}
use Rattle.std.specs.Io.KnownBytes.{Appends}
use Rattle.bits_core.specs.Faults.{shape_fault_words}
use Rattle.trace_text.specs.Faults.{trace_fault_words}
use Rattle.trace_text.specs.declared.faults.TraceFault.TheVariants as trace
use Rattle.queue_calls.specs.Faults.{recording_fault_words}
use Rattle.queue_calls.specs.declared.faults.RecordingFault.TheVariants as calls
use Rattle.register_recordings.specs.Faults.{register_fault_words}
use Rattle.register_recordings.specs.declared.faults.RegisterTextFault.TheVariants as register
use Rattle.ring_script.specs.Faults.{script_fault_words}
use Rattle.ring_script.specs.declared.faults.ScriptFault.{ScriptFault}
use Rattle.ring_program.specs.declared.faults.AppFault.{AppFault}
use Rattle.ring_program.specs.declared.faults.AppFault.TheVariants.{ReadFailed, TooLarge, WriteFailed, OutOfMemory, NotOfRun}
use Rattle.ring_program.specs.declared.faults.Refusal.{Refusal}
use Rattle.ring_program.specs.declared.faults.Refusal.TheVariants as refusal

-- number and text of each fault
abbrev pub app_fault_told : AppFault → ℕ × List ℕ
app_fault_told ReadFailed = (1, codes "input failed")
app_fault_told TooLarge = (2, codes "input is too large")
app_fault_told WriteFailed = (3, codes "output failed")
app_fault_told OutOfMemory = (4, codes "out of memory")
app_fault_told NotOfRun = (5, codes "recording is not of the run")

-- the number of the fault
abbrev pub app_fault_number : AppFault → ℕ
app_fault_number fault = (app_fault_told fault).0

-- its text
abbrev pub app_fault_words : AppFault → List ℕ
app_fault_words fault = (app_fault_told fault).1

-- the text of a refusal: that of the fault that it holds, if it holds one
abbrev pub refusal_words : Refusal → List ℕ
refusal_words (refusal.App fault) = app_fault_words fault
refusal_words (refusal.Trace fault) = trace_fault_words fault
refusal_words (refusal.Calls fault) = recording_fault_words fault
refusal_words (refusal.Register fault) = register_fault_words fault
refusal_words (refusal.Script fault) = script_fault_words fault
refusal_words (refusal.Shape fault) = shape_fault_words fault
refusal_words refusal.NoSecondThread = codes "no second thread"

-- the line that reports it
abbrev pub refusal_line : Refusal → List ℕ
refusal_line e = codes "refused: " ++ (refusal_words e ++ codes "\n")

-- it refuses a script, or a line of a trace, of recorded calls or of a recorded register; a second line may report what is wrong with it
abbrev pub IsInText : Refusal → Type 0
IsInText e = ((line : ℕ) × (e ≡ refusal.Trace (trace.BadLine line)))
    ⊎ (((line : ℕ) × (e ≡ refusal.Calls (calls.BadLine line))) ⊎ (((line : ℕ) × (e ≡ refusal.Register (register.BadLine line)))
    ⊎ ((fault : ScriptFault) × (e ≡ refusal.Script fault))))

-- a writer gained all of the text, if it was written completely, otherwise a prefix of it
abbrev pub Gains : Option (List ℕ) → Option (List ℕ) → Bool → List ℕ → Type 0
Gains before after true text = Appends before after text
Gains before after false text = (count : ℕ) × Appends before after (take count text)

-- a refusal was reported: its line, and after it nothing, or what is wrong in a text
abbrev pub SaysRefusal : (List ℕ → Type 0) → Refusal → Type 0
SaysRefusal Tells e = (more : List ℕ) × ((more ≡ []) ⊎ IsInText e) × Tells (refusal_line e ++ more)
