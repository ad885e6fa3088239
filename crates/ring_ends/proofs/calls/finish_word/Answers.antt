use Rattle.std.proofs.Common.{arith}
use Rattle.ring_ends.proofs.Accesses.{same}
use Rattle.ring_ends.proofs.MachineWhole.{access_can, access_right, access_went, went_nowhere, went_same}
use Rattle.ring_ends.proofs.calls.finish_word.Goals as goal

pub make-answer-requires-clause-right : goal.make-answer-requires-clause-right
make-answer-requires-clause-right g c = access_right g.M.SideMachine.kind c.laws.ensures c.requires c.digits.invariant.1 c.word_next-access.result c.word_next-access.ensures.due

pub make-answer-requires-clause-can : goal.make-answer-requires-clause-can
make-answer-requires-clause-can g c = access_can g.M.SideMachine.kind c.laws.ensures c.requires c.digits.invariant.1 c.word_next-access.result c.word_next-access.ensures.due

pub returns-then-last : goal.returns-then-last
returns-then-last g c = grind (arith, (access_went g.M.SideMachine.kind c.laws.ensures c.requires c.digits.invariant.1 c.word_next-access.result c.word_next-access.ensures.due c.make-answer.new.self c.make-answer.result c.make-answer.ensures.made (g.M.SideMachine.state c.end_word.new.self) c.end_word.ensures _ c.make-answer.ensures.answered), c.digits.invariant.1, c.end_word.ensures, c.end_word.new.self, c.laws.ensures, c.make-answer.ensures.answered, c.make-answer.ensures.made, c.make-answer.new.self, c.make-answer.result, c.requires, c.word_next-access.ensures.due, c.word_next-access.result, g.M.SideMachine.kind, g.M.SideMachine.state)

pub returns-in_default : goal.returns-in_default
returns-in_default g c = went_nowhere g.M.SideMachine.kind c.args.stepper.now (g.M.SideMachine.state c.args.machine.now) (g.O.Oracle.answers c.args.oracle.now)

pub digits-preserved : goal.digits-preserved
digits-preserved g c = grind (arith, (access_went g.M.SideMachine.kind c.laws.ensures c.requires c.digits.invariant.1 c.word_next-access.result c.word_next-access.ensures.due c.make-answer.new.self c.make-answer.result c.make-answer.ensures.made (g.M.SideMachine.worded c.word_feed.new.word) c.word_feed.ensures.fed _ c.make-answer.ensures.answered), (same c.digits.stepper c.make-answer.new.self c.word_next-access.result c.make-answer.result c.make-answer.ensures.made), c.digits.invariant.0, c.digits.invariant.1, c.digits.invariant.2, c.digits.machine, c.digits.stepper, c.laws.ensures, c.make-answer.ensures.answered, c.make-answer.ensures.made, c.make-answer.new.self, c.make-answer.result, c.requires, c.word_feed.ensures.fed, c.word_feed.ensures.of, c.word_feed.new.word, c.word_next-access.ensures.due, c.word_next-access.result, g.M.SideMachine.kind, g.M.SideMachine.worded)

pub digits-init : goal.digits-init
digits-init g c = search (arith, went_same, c.words-ring.ensures, c.in-Some.ensures)
