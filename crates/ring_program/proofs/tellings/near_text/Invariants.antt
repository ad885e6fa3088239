use Rattle.std.specs.Prelude.{drop, string_bytes}
use Rattle.bits_core.specs.Shape.{capacity_of}
use Rattle.ring_program.specs.Texts.{near_calls}
use Rattle.ring_program.proofs.TellingText.{IsToldSoFar}
use Rattle.ring_program.proofs.tellings.near_text.Given as goal

-- the text has gained the lines of what was recorded so far, and the items that are left are those of what is left
abbrev pub invariant-loop-each : goal.invariant-loop-each
invariant-loop-each g l =
    IsToldSoFar (capacity_of l.fn.script.shape) (near_calls l.fn.script l.fn.taken l.fn.told) (near_calls l.fn.script l.left (drop l.each-index l.fn.told)) l.begun (string_bytes l.text)
