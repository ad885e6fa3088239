-- The number of each fault of a text of a recorded register, and its text.
use Rattle.std.specs.Prelude.{ℕ, List, ◌++◌, codes, decimal}
use Rattle.register_recordings.specs.declared.faults.RegisterTextFault.{RegisterTextFault}
use Rattle.register_recordings.specs.declared.faults.RegisterTextFault.TheVariants.{BadLine, TooLong, OutOfMemory}

-- number and text of the fault
abbrev pub register_fault_told : RegisterTextFault → ℕ × List ℕ
register_fault_told (BadLine line) = (1, codes "register line " ++ (decimal line ++ codes " is not a line of the format"))
register_fault_told TooLong = (2, codes "register has too many lines")
register_fault_told OutOfMemory = (3, codes "out of memory")

-- the number of the fault
abbrev pub register_fault_number : RegisterTextFault → ℕ
register_fault_number fault = (register_fault_told fault).0

-- its text
abbrev pub register_fault_words : RegisterTextFault → List ℕ
register_fault_words fault = (register_fault_told fault).1
