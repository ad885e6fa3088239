use Rattle.std.proofs.Common.{arith, true≢false}
use Rattle.ring_ends.proofs.PutterCalls.{put_due}
use Rattle.ring_ends.proofs.putters.ProducerSideMachine.word_next.Goals as goal

pub returns-clause-due : goal.returns-clause-due
returns-clause-due c = grind (arith, put_due, true≢false)
