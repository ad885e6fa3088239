use Rattle.std.proofs.Common.{arith, refl}
use Rattle.ring_ends.proofs.MachineMoves.{begun, can_there, ended, one_there}
use Rattle.ring_ends.proofs.MachineWhole.{answered_nothing}
use Rattle.ring_ends.proofs.calls.advance.Goals as goal

pub step-requires-clause-right : goal.step-requires-clause-right
step-requires-clause-right g c = grind arith

pub step-requires-clause-can : goal.step-requires-clause-can
step-requires-clause-can g c =
    let k = g.M.SideMachine in
    can_there k.kind c.laws.ensures c.args.stepper.now (k.state c.args.machine.now) c.requires.at.0 c.requires.at.1 c.requires.at.2 c.in-Some.access c.in-Some.ensures

pub feed-requires : goal.feed-requires
feed-requires g c =
    let k = g.M.SideMachine in (
      (c.in-Some.access, c.in-Some.ensures.is),
      one_there k.kind c.laws.ensures c.args.stepper.now (k.state c.args.machine.now) c.requires.at.0 c.requires.at.1 c.requires.at.2 c.in-Some.access c.in-Some.ensures c.step.new.self c.in-Some-step.answer c.in-Some-step.ensures.stepped,
    )

pub returns-in-None-clause-stepped : goal.returns-in-None-clause-stepped
returns-in-None-clause-stepped g c = grind (arith, answered_nothing, c.args.machine.now, c.args.oracle.now, c.args.stepper.now, c.in-None.ensures, c.laws.ensures.never, g.M.SideMachine.state, g.O.Oracle.answers)

pub returns-in-None-step-clause-stepped : goal.returns-in-None-step-clause-stepped
returns-in-None-step-clause-stepped g c =
    let k = g.M.SideMachine in
    let on = c.laws.ensures.due_busy (k.state c.args.machine.now) c.in-Some.access c.in-Some.ensures.is in
    record {
      kind = refl;
      rests = λ none. absurd (c.laws.ensures.never (k.state c.args.machine.now) on.0 none on.1);
      steps = λ calls made at call busy. begun k.kind c.laws.ensures c.args.stepper.now (k.state c.args.machine.now) calls made at c.in-Some.access c.in-Some.ensures c.step.new.self c.in-None-step.ensures.stepped;
      answered = c.in-None-step.ensures.answered;
    }

pub returns-in-Some-step-clause-stepped : goal.returns-in-Some-step-clause-stepped
returns-in-Some-step-clause-stepped g c =
    let k = g.M.SideMachine in
    let on = c.laws.ensures.due_busy (k.state c.args.machine.now) c.in-Some.access c.in-Some.ensures.is in
    record {
      kind = c.feed.ensures.kind;
      rests = λ none. absurd (c.laws.ensures.never (k.state c.args.machine.now) on.0 none on.1);
      steps = λ calls made at call busy. ended k.kind c.laws.ensures c.args.stepper.now (k.state c.args.machine.now) calls made at c.in-Some.access c.in-Some.ensures c.step.new.self c.in-Some-step.answer c.in-Some-step.ensures.stepped (k.state c.feed.new.self) c.feed.ensures;
      answered = c.in-Some-step.ensures.answered;
    }
