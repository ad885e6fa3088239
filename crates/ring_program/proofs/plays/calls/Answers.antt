use Rattle.std.proofs.Common.{arith}
use Rattle.ring_program.proofs.plays.calls.Goals as goal

pub calls_text-requires : goal.calls_text-requires
calls_text-requires g c = record { linearizable = rw c.as_slice.ensures.value c.in_ok-told.ensures.2.linearizable }

pub returns-clause-told : goal.returns-clause-told
returns-clause-told g c = grind (arith, c.in_ok-told.ensures, c.as_slice.ensures.value, c.in_ok-calls_text.ensures.recording)
