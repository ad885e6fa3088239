use Rattle.std.proofs.Common.{arith, ◌∙◌}
use Rattle.ring_core.specs.ProducerState.{Put}
use Rattle.ring_ends.proofs.Common.{producing, AreAnswered, IsAskedOnce}
use Rattle.ring_ends.proofs.MachineCalls.{Step, same_step, step_few, step_invariant, step_lawful}
use Rattle.ring_ends.proofs.PutterCalls.{batch_none, batch_one, batch_some, call_seen, few_accesses, few_marked, put_laws, put_seen, put_shape, put_step}
use Rattle.ring_ends.proofs.putters.Putter.step_put_all.Given.{Over}
use Rattle.ring_ends.proofs.putters.Putter.step_put_all.Goals.{After-step}
use Rattle.ring_ends.proofs.putters.Putter.step_put_all.Goals as goal

-- the call and the step
abbrev step : (g : Over) (c : After-step g) → Step producing (Put c.args.items.now)
step g c = put_step c.self.inside.oracle c.self.inside.stepper c.self.inside.machine c.self.inside.steps c.args.self.now c.self.view_is c.self.invariant (Put c.args.items.now) c.begin_put_all.new.machine c.begin_put_all.ensures.begins c.step.new.stepper c.step.new.machine c.step.ensures.stepped

pub step-requires-clause-few : goal.step-requires-clause-few
step-requires-clause-few g c = grind (arith, call_seen, few_accesses, few_marked, put_shape)

pub invariant_of-self : goal.invariant_of-self
invariant_of-self g c = step_invariant producing put_laws (step g (goal.at.invariant_of-self g c).After-step) c.step.new.steps c.step.ensures.none c.step.ensures.more

pub returns : goal.returns
returns g c =
    let s = step g (goal.at.returns g c).After-step in
    let kind = c.step.ensures.stepped.kind ∙ c.begin_put_all.ensures.kind in record {
      same = same_step producing put_laws s;
      lawful = step_lawful producing put_laws s;
      one = batch_one c.args.items.now s kind c.batch_reply.result c.batch_reply.ensures.state;
      none = batch_none c.args.items.now s kind c.batch_reply.result c.batch_reply.ensures.state c.step.new.steps c.step.ensures.none c.step.ensures.more;
      some = batch_some c.args.items.now s kind c.batch_reply.result c.batch_reply.ensures.state;
      few = step_few producing put_laws s;
      oracle = put_seen c.self.view_is (λ _ x. IsAskedOnce g.O.Oracle.answers x c.step.new.oracle) c.step.ensures.oracle;
      answered = put_seen c.self.view_is (λ e x. AreAnswered e c.step.new.stepper (g.O.Oracle.answers x) (g.O.Oracle.answers c.step.new.oracle)) c.step.ensures.stepped.answered;
    }
