use Rattle.std.proofs.Common.{arith}
use Rattle.ring_program.proofs.PlayLemmas.{play_of_shape, play_within}
use Rattle.ring_program.proofs.plays.trace.Goals as goal

pub write_trace-requires : goal.write_trace-requires
write_trace-requires g c = grind (arith, play_of_shape, c.shape.ensures, c.as_slice.ensures.value, c.in_ok-report.ensures.plays.plays)

pub returns-clause-told : goal.returns-clause-told
returns-clause-told g c =
    grind (arith, play_within, c.requires.short, c.in_ok-report.ensures.plays.plays, c.in_ok-report.ensures.plays, c.in_ok-report.ensures.linearizable, c.shape.ensures, c.as_slice.ensures.value, c.in_ok-write_trace.ensures.again)
