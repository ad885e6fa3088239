use Rattle.std.specs.Prelude.{drop, string_bytes}
use Rattle.bits_core.specs.Shape.{capacity_of}
use Rattle.ring_player.specs.Tellings.{call_events}
use Rattle.ring_program.proofs.TellingText.{IsToldSoFar}
use Rattle.ring_program.proofs.tellings.told_text.Given as goal

-- the text has gained the lines of what was recorded so far
abbrev pub invariant-loop-each : goal.invariant-loop-each
invariant-loop-each g l =
    IsToldSoFar (capacity_of l.fn.script.shape) (call_events l.fn.script l.fn.told) (call_events l.fn.script (drop l.each-index l.fn.told)) l.begun (string_bytes l.text)
