use Rattle.std.proofs.Common.{◌≡◌, ◌++◌, take, string_bytes}
use Rattle.std.specs.List.{flat_map}
use Rattle.ring_program.specs.Texts.{number_text}
use Rattle.ring_program.proofs.lines.push_numbers.Given as goal

-- the text has gained the numbers so far
abbrev pub invariant-loop-number : goal.invariant-loop-number
invariant-loop-number g l = string_bytes l.text ≡ string_bytes l.fn.text ++ flat_map number_text (take l.number-index l.numbers)
