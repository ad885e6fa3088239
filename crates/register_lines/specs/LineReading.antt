-- How a line is read, part by part: what the bytes are read as, or nothing.
use Rattle.std.specs.Prelude.{◌==◌, ℕ, List, length, codes, Option, Some, None, option_map, option_and_then}
use Rattle.std.specs.Bool.{then_some}
use Rattle.line_parts.specs.Parts.{after, then_or_else, number_at}
use Rattle.register_lines.specs.declared.lines.RegisterLine.{RegisterLine}
use Rattle.register_lines.specs.declared.lines.RegisterLine.TheVariants.{Register, Valued, Cut, CutValued, Write, Wrote, Read, Got}

-- this, if nothing is left
abbrev pub at_end : {B : Type 0} → B → List ℕ → Option B
at_end value rest = then_some (length rest == 0) value

-- a number with nothing after it
unfoldable pub last_number : List ℕ → Option ℕ
last_number bytes = option_and_then (λ x. at_end x.0 x.1) (number_at bytes)

-- after the first value either a space and the number of values, or nothing
abbrev pub register_numbers_after : ℕ → List ℕ → Option (ℕ × Option ℕ)
register_numbers_after first rest = then_or_else (after (codes " ") rest) (λ digits. option_map (λ values. (first, Some values)) (last_number digits)) (at_end (first, None) rest)

-- the first value, and the number of values if it is given
unfoldable pub register_numbers : List ℕ → Option (ℕ × Option ℕ)
register_numbers bytes = option_and_then (λ x. register_numbers_after x.0 x.1) (number_at bytes)

-- the first line with these numbers
abbrev pub register_line_of : ℕ × Option ℕ → RegisterLine
register_line_of (first, None) = Register first
register_line_of (first, Some values) = Valued first values

-- the first line with these numbers, of a recording that lacks the later operations
abbrev pub cut_line_of : ℕ × Option ℕ → RegisterLine
cut_line_of (first, None) = Cut first
cut_line_of (first, Some values) = CutValued first values

-- the bytes after `register `
unfoldable pub register_line : List ℕ → Option RegisterLine
register_line bytes = option_map register_line_of (register_numbers bytes)

-- the bytes after `cut register `
unfoldable pub cut_register_line : List ℕ → Option RegisterLine
cut_register_line bytes = option_map cut_line_of (register_numbers bytes)

-- the bytes after `W `
unfoldable pub writer_line : List ℕ → Option RegisterLine
writer_line bytes = then_or_else (after (codes "write ") bytes) (λ digits. option_map Write (last_number digits)) (option_and_then (at_end Wrote) (after (codes "wrote") bytes))

-- the bytes after `R`: the number of the reader, and what follows it
abbrev pub reader_line_after : ℕ → List ℕ → Option RegisterLine
reader_line_after reader rest = then_or_else (after (codes " got ") rest) (λ digits. option_map (Got reader) (last_number digits)) (option_and_then (at_end (Read reader)) (after (codes " read") rest))

-- the bytes after `R`
unfoldable pub reader_line : List ℕ → Option RegisterLine
reader_line bytes = option_and_then (λ x. reader_line_after x.0 x.1) (number_at bytes)

-- a line, whatever its numbers are
abbrev pub line_at : List ℕ → Option RegisterLine
line_at bytes =
    then_or_else (after (codes "R") bytes) reader_line
    (then_or_else (after (codes "W ") bytes) writer_line
    (then_or_else (after (codes "register ") bytes) register_line (option_and_then cut_register_line (after (codes "cut register ") bytes))))
