use Rattle.std.proofs.Common.{◌∷◌, [], ◌∙◌}
use Rattle.ring_core.specs.ProducerState.{Put}
use Rattle.ring_ends.proofs.Common.{producing, AreAnswered, IsAskedOnce}
use Rattle.ring_ends.proofs.MachineCalls.{Step, same_step, step_few, step_invariant, step_lawful}
use Rattle.ring_ends.proofs.PutterCalls.{item_none, item_one, item_some, put_laws, put_seen, put_step}
use Rattle.ring_ends.proofs.putters.Putter.step_put.Given.{Over}
use Rattle.ring_ends.proofs.putters.Putter.step_put.Goals.{After-step}
use Rattle.ring_ends.proofs.putters.Putter.step_put.Goals as goal

-- the call and the step
abbrev step : (g : Over) (c : After-step g) → Step producing (Put (c.args.item ∷ []))
step g c = put_step c.self.inside.oracle c.self.inside.stepper c.self.inside.machine c.self.inside.steps c.args.self.now c.self.view_is c.self.invariant (Put (c.args.item ∷ [])) c.begin_put.new.machine c.begin_put.ensures.begins c.step.new.stepper c.step.new.machine c.step.ensures.stepped

pub invariant_of-self : goal.invariant_of-self
invariant_of-self g c = step_invariant producing put_laws (step g (goal.at.invariant_of-self g c).After-step) c.step.new.steps c.step.ensures.none c.step.ensures.more

pub returns : goal.returns
returns g c =
    let s = step g (goal.at.returns g c).After-step in
    let kind = c.step.ensures.stepped.kind ∙ c.begin_put.ensures.kind in record {
      same = same_step producing put_laws s;
      lawful = step_lawful producing put_laws s;
      one = item_one c.args.item s kind c.reply.result c.reply.ensures.state;
      none = item_none c.args.item s kind c.reply.result c.reply.ensures.state c.step.new.steps c.step.ensures.none c.step.ensures.more;
      some = item_some c.args.item s kind c.reply.result c.reply.ensures.state;
      few = step_few producing put_laws s;
      oracle = put_seen c.self.view_is (λ _ x. IsAskedOnce g.O.Oracle.answers x c.step.new.oracle) c.step.ensures.oracle;
      answered = put_seen c.self.view_is (λ e x. AreAnswered e c.step.new.stepper (g.O.Oracle.answers x) (g.O.Oracle.answers c.step.new.oracle)) c.step.ensures.stepped.answered;
    }
