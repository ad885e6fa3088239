-- The number of each fault of a trace's text, and its text.
use Rattle.std.specs.Prelude.{ℕ, List, ◌++◌, codes, decimal}
use Rattle.trace_text.specs.declared.faults.TraceFault.{TraceFault}
use Rattle.trace_text.specs.declared.faults.TraceFault.TheVariants.{BadShape, BadLine, TooLong, OutOfMemory}
use Rattle.bits_core.specs.Faults.{shape_fault_words}

-- number and text of the reason why bytes are not a trace
abbrev pub trace_fault_told : TraceFault → ℕ × List ℕ
trace_fault_told (BadShape fault) = (1, shape_fault_words fault)
trace_fault_told (BadLine line) = (2, codes "trace line " ++ (decimal line ++ codes " is not a line of the format"))
trace_fault_told TooLong = (3, codes "trace has too many events")
trace_fault_told OutOfMemory = (4, codes "out of memory")

-- the number of the fault
abbrev pub trace_fault_number : TraceFault → ℕ
trace_fault_number fault = (trace_fault_told fault).0

-- its text
abbrev pub trace_fault_words : TraceFault → List ℕ
trace_fault_words fault = (trace_fault_told fault).1
