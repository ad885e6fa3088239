use Rattle.std.proofs.Common.{refl}
use Rattle.ring_ends.proofs.Common.{is_taking, wants_next, consuming, AreAnswered, IsAskedOnce}
use Rattle.ring_ends.proofs.MachineCalls.{Step, same_step, step_few, step_invariant, step_lawful, step_of}
use Rattle.ring_ends.proofs.TakerCalls.{begins_seen, few_taken, take_laws, take_none, take_one, take_seen, take_some, take_begun, take_wanted}
use Rattle.ring_ends.proofs.takers.Taker.step_take.Given.{Over}
use Rattle.ring_ends.proofs.takers.Taker.step_take.Goals.{After-step}
use Rattle.ring_ends.proofs.takers.Taker.step_take.Goals as goal

-- the take and the step
abbrev step : (g : Over) (c : After-step g) → Step consuming (wants_next c.args.self.now.taking c.args.self.now.wanted 1)
step g c = step_of consuming (take_begun c.self.inside.oracle c.self.inside.stepper c.self.inside.machine c.self.inside.steps c.args.self.now c.self.view_is c.self.invariant (wants_next c.args.self.now.taking c.args.self.now.wanted 1) c.begin_take.new.machine (begins_seen c.self.view_is c.self.inside.machine c.begin_take.new.machine 1 _ refl c.begin_take.ensures.begins))
    c.step.new.stepper c.step.new.machine c.step.ensures.stepped

pub step-requires-clause-few : goal.step-requires-clause-few
step-requires-clause-few g c =
    let m = c.self.inside.machine in
    few_taken m.shape (is_taking m) m.wanted c.self.inside.steps c.self.inside.stepper.list c.self.invariant.1 c.begin_take.ensures.few

pub invariant_of-self : goal.invariant_of-self
invariant_of-self g c = step_invariant consuming take_laws (step g (goal.at.invariant_of-self g c).After-step) c.step.new.steps c.step.ensures.none c.step.ensures.more

pub returns : goal.returns
returns g c =
    let s = step g (goal.at.returns g c).After-step in record {
      same = same_step consuming take_laws s;
      lawful = step_lawful consuming take_laws s;
      one = take_one _ s c.reply.result c.reply.ensures.state;
      none = take_none _ s c.step.new.steps c.step.ensures.none c.step.ensures.more c.reply.result c.reply.ensures.state;
      some = take_some _ s c.reply.result c.reply.ensures.state;
      wanted = take_wanted _ s;
      few = step_few consuming take_laws s;
      oracle = take_seen c.self.view_is (λ _ x. IsAskedOnce g.O.Oracle.answers x c.step.new.oracle) c.step.ensures.oracle;
      answered = take_seen c.self.view_is (λ e x. AreAnswered e c.step.new.stepper (g.O.Oracle.answers x) (g.O.Oracle.answers c.step.new.oracle)) c.step.ensures.stepped.answered;
    }
