-- The number of each fault, and its text.
use Rattle.std.specs.Prelude.{ℕ, List, codes}
use Rattle.bits_core.specs.declared.faults.Kind.{Kind}
use Rattle.bits_core.specs.declared.faults.Kind.TheVariants.{WrongSide, OutOfTurn, NotPermitted, NotProgram}
use Rattle.bits_core.specs.declared.faults.ShapeFault.{ShapeFault}
use Rattle.bits_core.specs.declared.faults.ShapeFault.TheVariants.{Capacity, Modulus, Width, Batch, TakeBatch, ModulusOfBatches}

-- number and text of the reason why numbers make no shape
abbrev pub shape_fault_told : ShapeFault → ℕ × List ℕ
shape_fault_told Capacity = (1, codes "capacity must be from 1 to 64")
shape_fault_told Modulus = (2, codes "modulus must be from capacity + batch + 1 to 256")
shape_fault_told Width = (3, codes "width must be from 1 to 64")
shape_fault_told Batch = (4, codes "batch must be from 1 to capacity")
shape_fault_told TakeBatch = (5, codes "take batch must be from 1 to capacity")
shape_fault_told ModulusOfBatches = (6, codes "modulus must be from capacity + the larger batch + 1 to 256")

-- the number of the fault
abbrev pub shape_fault_number : ShapeFault → ℕ
shape_fault_number fault = (shape_fault_told fault).0

-- the text of the fault
abbrev pub shape_fault_words : ShapeFault → List ℕ
shape_fault_words fault = (shape_fault_told fault).1

-- number and text of what is wrong with an event
abbrev pub kind_told : Kind → ℕ × List ℕ
kind_told WrongSide = (1, codes "wrong side")
kind_told OutOfTurn = (2, codes "out of turn")
kind_told NotPermitted = (3, codes "not permitted")
kind_told NotProgram = (4, codes "not of the program")

-- the number of the kind
abbrev pub kind_number : Kind → ℕ
kind_number kind = (kind_told kind).0

-- the text of the kind
abbrev pub kind_words : Kind → List ℕ
kind_words kind = (kind_told kind).1
