-- The number of each fault, and its text.
use Rattle.std.specs.Prelude.{ℕ, List, ◌++◌, codes, decimal}
use Rattle.queue_calls.specs.declared.faults.Fault.{Fault}
use Rattle.queue_calls.specs.declared.faults.Fault.TheVariants as auditor
use Rattle.queue_calls.specs.declared.faults.RecordingFault.{RecordingFault}
use Rattle.queue_calls.specs.declared.faults.RecordingFault.TheVariants.{BadLine, TooLong, OutOfMemory}

-- the number of an auditor's fault
abbrev pub number_of : Fault → ℕ
number_of auditor.OutOfTurn = 1
number_of auditor.NotLinearizable = 2
number_of auditor.OutOfMemory = 3

-- number and text of the reason why bytes are not a recording
abbrev pub recording_fault_told : RecordingFault → ℕ × List ℕ
recording_fault_told (BadLine line) = (1, codes "calls line " ++ (decimal line ++ codes " is not a line of the format"))
recording_fault_told TooLong = (2, codes "calls have too many lines")
recording_fault_told OutOfMemory = (3, codes "out of memory")

-- the number of the reason why bytes are not a recording
abbrev pub recording_fault_number : RecordingFault → ℕ
recording_fault_number fault = (recording_fault_told fault).0

-- its text
abbrev pub recording_fault_words : RecordingFault → List ℕ
recording_fault_words fault = (recording_fault_told fault).1
