use Rattle.ring_ends.proofs.Common.{Close, producing, AreAnswered, IsAskedOnce}
use Rattle.ring_ends.proofs.MachineCalls.{Step, same_step, step_few, step_invariant, step_lawful, step_stands}
use Rattle.ring_ends.proofs.PutterCalls.{close_goes, close_one, close_over, is_over, put_laws, put_seen, put_step}
use Rattle.ring_ends.proofs.putters.Putter.step_close.Given.{Over}
use Rattle.ring_ends.proofs.putters.Putter.step_close.Goals.{After-step}
use Rattle.ring_ends.proofs.putters.Putter.step_close.Goals as goal

-- the call and the step
abbrev step : (g : Over) (c : After-step g) → Step producing Close
step g c = put_step c.self.inside.oracle c.self.inside.stepper c.self.inside.machine c.self.inside.steps c.args.self.now c.self.view_is c.self.invariant Close c.begin_close.new.machine c.begin_close.ensures.begins c.step.new.stepper c.step.new.machine c.step.ensures.stepped

pub invariant_of-self : goal.invariant_of-self
invariant_of-self g c = step_invariant producing put_laws (step g (goal.at.invariant_of-self g c).After-step) c.step.new.steps c.step.ensures.none c.step.ensures.more

pub returns : goal.returns
returns g c =
    let s = step g (goal.at.returns g c).After-step in
    let (calls, made, stands) = step_stands producing put_laws s in
    let over = is_over c.step.new.machine calls made stands c.next.result c.next.ensures.due (λ none. (c.next.ensures.rest calls made stands none).0) c.is_none.result c.is_none.ensures in record {
      same = same_step producing put_laws s;
      lawful = step_lawful producing put_laws s;
      one = close_one s c.is_none.result over;
      goes_on = close_goes s c.is_none.result over c.step.new.steps c.step.ensures.none c.step.ensures.more;
      over = close_over s c.is_none.result over;
      few = step_few producing put_laws s;
      oracle = put_seen c.self.view_is (λ _ x. IsAskedOnce g.O.Oracle.answers x c.step.new.oracle) c.step.ensures.oracle;
      answered = put_seen c.self.view_is (λ e x. AreAnswered e c.step.new.stepper (g.O.Oracle.answers x) (g.O.Oracle.answers c.step.new.oracle)) c.step.ensures.stepped.answered;
    }
