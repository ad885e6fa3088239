use Rattle.std.proofs.Common.{arith}
use Rattle.ring_ends.proofs.Accesses.{same}
use Rattle.ring_ends.proofs.MachineWhole.{access_can, access_feeds, access_right, access_went, went_nowhere}
use Rattle.ring_ends.proofs.calls.write_count.Goals as goal

pub make-answer-requires-clause-right : goal.make-answer-requires-clause-right
make-answer-requires-clause-right g c = access_right g.M.SideMachine.kind c.laws.ensures c.requires c.writes.invariant.1 c.in-Some.access c.in-Some.ensures

pub make-answer-requires-clause-can : goal.make-answer-requires-clause-can
make-answer-requires-clause-can g c = access_can g.M.SideMachine.kind c.laws.ensures c.requires c.writes.invariant.1 c.in-Some.access c.in-Some.ensures

pub feed_count-requires : goal.feed_count-requires
feed_count-requires g c = grind (arith, (access_feeds g.M.SideMachine.kind c.laws.ensures c.requires c.writes.invariant.1 c.in-Some.access c.in-Some.ensures c.make-answer.new.self c.make-answer.result c.make-answer.ensures.made), c.in-Some.access, c.in-Some.ensures, c.is_counting.ensures.0, c.laws.ensures, c.make-answer.ensures.made, c.make-answer.new.self, c.make-answer.result, c.requires, c.writes-test.true, c.writes.invariant.1, g.M.SideMachine.kind)

pub writes-preserved : goal.writes-preserved
writes-preserved g c = grind (arith, (access_went g.M.SideMachine.kind c.laws.ensures c.requires c.writes.invariant.1 c.in-Some.access c.in-Some.ensures c.make-answer.new.self c.make-answer.result c.make-answer.ensures.made (g.M.SideMachine.state c.feed_count.new.self) c.feed_count.ensures.fed _ c.make-answer.ensures.answered), (same c.writes.stepper c.make-answer.new.self c.in-Some.access c.make-answer.result c.make-answer.ensures.made), c.feed_count.ensures.fed, c.feed_count.new.self, c.in-Some.access, c.in-Some.ensures, c.laws.ensures, c.make-answer.ensures.answered, c.make-answer.ensures.made, c.make-answer.new.self, c.make-answer.result, c.requires, c.writes.invariant.0, c.writes.invariant.1, c.writes.stepper, g.M.SideMachine.kind, g.M.SideMachine.state)

pub writes-init : goal.writes-init
writes-init g c = (c.words-ring.ensures, went_nowhere g.M.SideMachine.kind c.args.stepper.now (g.M.SideMachine.state c.args.machine.now) (g.O.Oracle.answers c.args.oracle.now))
