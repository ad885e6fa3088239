-- The text of a trace: a line of the shape, and a line for each event.
use Rattle.std.specs.Prelude.{ℕ, ◌==◌, if◌then◌else◌, Bool, true, false, List, [], ◌++◌, codes, decimal}
use Rattle.std.specs.List.{flat_map}
use Rattle.bits_core.specs.declared.events.Side.{Side}
use Rattle.bits_core.specs.declared.events.Side.TheVariants.{P, C}
use Rattle.bits_core.specs.declared.events.Bit.{Bit}
use Rattle.bits_core.specs.declared.events.Bit.TheVariants.{S, R, X, Cell}
use Rattle.bits_core.specs.declared.events.Act.{Act}
use Rattle.bits_core.specs.declared.events.Act.TheVariants.{ReadBegin, ReadEnd, WriteBegin, WriteEnd}
use Rattle.bits_core.specs.declared.events.Event.{Event}
use Rattle.bits_core.specs.declared.shapes.Shape.{Shape}
use Rattle.bits_core.specs.Shape.{batch_of, capacity_of, modulus_of, take_batch_of, width_of}

-- the side, as a line begins with it
abbrev pub side_text : Side → List ℕ
side_text P = codes "P "
side_text C = codes "C "

-- the word for an act
abbrev pub act_text : Act → List ℕ
act_text ReadBegin = codes "read "
act_text (ReadEnd v) = codes "got "
act_text (WriteBegin v) = codes "write "
act_text WriteEnd = codes "wrote "

-- the bit, its indices in decimal
abbrev pub bit_text : Bit → List ℕ
bit_text (S i) = codes "s" ++ decimal i
bit_text (R i) = codes "r" ++ decimal i
bit_text X = codes "x"
bit_text (Cell j i) = codes "c" ++ (decimal j ++ (codes "." ++ decimal i))

-- the text of a value
abbrev pub digit_text : Bool → List ℕ
digit_text false = codes " 0"
digit_text true = codes " 1"

-- the value that an act returns or writes, if it has one
abbrev pub value_text : Act → List ℕ
value_text ReadBegin = []
value_text (ReadEnd v) = digit_text v
value_text (WriteBegin v) = digit_text v
value_text WriteEnd = []

-- the line of an event, such as `P write c0.1 1` and a line feed
abbrev pub event_line : Event → List ℕ
event_line e = side_text e.side ++ (act_text e.act ++ (bit_text e.bit ++ (value_text e.act ++ codes "\n")))

-- a batch after a space, if it is not 1
unfoldable pub batch_text : ℕ → List ℕ
batch_text batch = if batch == 1 then [] else (codes " " ++ decimal batch)

-- both batches, each after a space, if the take batch is not 1; otherwise the batch alone, if it is not 1
unfoldable pub batches_text : ℕ → ℕ → List ℕ
batches_text batch take_batch = if take_batch == 1 then batch_text batch else (codes " " ++ (decimal batch ++ (codes " " ++ decimal take_batch)))

-- the line of a shape, such as `shape 1 3 1` with batches of 1, `shape 3 7 1 3` with a batch of 3 or `shape 3 7 1 1 3` with a take
-- batch of 3, and a line feed
abbrev pub shape_line : ℕ → ℕ → ℕ → ℕ → ℕ → List ℕ
shape_line capacity modulus width batch take_batch =
    codes "shape " ++ (decimal capacity ++ (codes " " ++ (decimal modulus ++ (codes " " ++ (decimal width ++ (batches_text batch take_batch ++ codes "\n"))))))

-- the whole text
abbrev pub trace_text : Shape → List Event → List ℕ
trace_text shape events = shape_line (capacity_of shape) (modulus_of shape) (width_of shape) (batch_of shape) (take_batch_of shape) ++ flat_map event_line events
