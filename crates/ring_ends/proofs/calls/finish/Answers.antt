use Rattle.std.proofs.Common.{rules, arith}
use Rattle.ring_ends.specs.Machines.{MachineBusy, MachineWent}
use Rattle.ring_ends.proofs.Accesses.{longer}
use Rattle.ring_ends.proofs.MachineWhole.{access_can, access_feeds, access_right, access_went, below, ended_by, ready_busy, went_busy, went_nowhere, went_then}
use Rattle.ring_ends.proofs.calls.finish.Given.{Over}
use Rattle.ring_ends.proofs.calls.finish.Goals.{After-write_count}
use Rattle.ring_ends.proofs.calls.finish.Goals as goal

-- a call that has started continues
busy : (g : Over) (c : After-write_count g) → MachineBusy g.M.SideMachine.kind c.args.stepper.now (g.M.SideMachine.state c.args.machine.now)
busy g c = ready_busy g.M.SideMachine.kind c.args.stepper.now (g.M.SideMachine.state c.args.machine.now) c.requires.0 c.requires.1

-- the result of the accesses of scan, word and count
so_far : (g : Over) (c : After-write_count g) →
    MachineWent g.M.SideMachine.kind c.args.stepper.now (g.M.SideMachine.state c.args.machine.now) c.write_count.new.stepper (g.M.SideMachine.state c.write_count.new.machine) (g.O.Oracle.answers c.args.oracle.now) (g.O.Oracle.answers c.write_count.new.oracle)
so_far g c = search (rules, went_then)

pub finish_scan-requires : goal.finish_scan-requires
finish_scan-requires g c = search (rules, ready_busy, went_busy)

pub finish_word-requires : goal.finish_word-requires
finish_word-requires g c = search (rules, ready_busy, went_busy)

pub write_count-requires : goal.write_count-requires
write_count-requires g c = search (rules, ready_busy, went_busy)

pub make-answer-requires-clause-right : goal.make-answer-requires-clause-right
make-answer-requires-clause-right g c =
    let t = (goal.at.make-answer-requires-clause-right g c).After-write_count in
    access_right g.M.SideMachine.kind c.laws.ensures (busy g t) (so_far g t) c.in-Some.access c.in-Some.ensures

pub make-answer-requires-clause-can : goal.make-answer-requires-clause-can
make-answer-requires-clause-can g c =
    let t = (goal.at.make-answer-requires-clause-can g c).After-write_count in
    access_can g.M.SideMachine.kind c.laws.ensures (busy g t) (so_far g t) c.in-Some.access c.in-Some.ensures

pub feed-requires : goal.feed-requires
feed-requires g c =
    let t = (goal.at.feed-requires g c).After-write_count in
    access_feeds g.M.SideMachine.kind c.laws.ensures (busy g t) (so_far g t) c.in-Some.access c.in-Some.ensures c.make-answer.new.self c.make-answer.result c.make-answer.ensures.made

pub accesses-smaller : goal.accesses-smaller
accesses-smaller g c =
    let t = (goal.at.accesses-smaller g c).After-write_count in
    let far = below g.M.SideMachine.kind c.laws.ensures (so_far g t) c.requires.0 c.requires.1 c.in-Some.access c.in-Some.ensures in
    omega (arith, far, longer c.write_count.new.stepper c.make-answer.new.self c.in-Some.access c.make-answer.result c.make-answer.ensures.made, c.finish_scan.ensures.longer, c.finish_word.ensures.longer, c.write_count.ensures.longer)

pub accesses-preserved : goal.accesses-preserved
accesses-preserved g c =
    let t = (goal.at.accesses-preserved g c).After-write_count in
    access_went g.M.SideMachine.kind c.laws.ensures (busy g t) (so_far g t) c.in-Some.access c.in-Some.ensures c.make-answer.new.self c.make-answer.result c.make-answer.ensures.made (g.M.SideMachine.state c.feed.new.self) c.feed.ensures _ c.make-answer.ensures.answered

pub accesses-init : goal.accesses-init
accesses-init g c = went_nowhere g.M.SideMachine.kind c.args.stepper.now (g.M.SideMachine.state c.args.machine.now) (g.O.Oracle.answers c.args.oracle.now)

pub returns-in_default : goal.returns-in_default
returns-in_default g c = ended_by g.M.SideMachine.kind c.laws.ensures (so_far g (goal.at.returns-in_default g c).After-write_count) c.in_default.ensures
