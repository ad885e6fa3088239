use Rattle.std.proofs.Common.{◌≡◌, length}
use Rattle.ring_ends.proofs.Common.{is_taking, consuming, AreAnswered, IsAskedOnce}
use Rattle.ring_ends.proofs.MachineCalls.{Step, same_step, step_few, step_invariant, step_lawful, step_of}
use Rattle.ring_ends.proofs.TakerCalls.{begins_seen, few_taken, take_laws, take_seen, take_begun, wants_same}
use Rattle.ring_ends.proofs.TakesAll.{step_none, step_one, step_others, step_room, step_some, step_within}
use Rattle.ring_ends.proofs.takers.Taker.step_take_all.Given.{Over}
use Rattle.ring_ends.proofs.takers.Taker.step_take_all.Goals.{After-step}
use Rattle.ring_ends.proofs.takers.Taker.step_take_all.Goals as goal

-- the take and the step
abbrev step : (g : Over) (c : After-step g) → Step consuming (length c.args.into.now)
step g c = step_of consuming (take_begun c.self.inside.oracle c.self.inside.stepper c.self.inside.machine c.self.inside.steps c.args.self.now c.self.view_is c.self.invariant (length c.args.into.now) c.begin_take.new.machine (begins_seen c.self.view_is c.self.inside.machine c.begin_take.new.machine (length c.args.into.now) (length c.args.into.now) (wants_same c.args.self.now.taking c.args.self.now.wanted (length c.args.into.now) c.requires.wanted) c.begin_take.ensures.begins))
    c.step.new.stepper c.step.new.machine c.step.ensures.stepped

pub step-requires-clause-few : goal.step-requires-clause-few
step-requires-clause-few g c =
    let m = c.self.inside.machine in
    few_taken m.shape (is_taking m) m.wanted c.self.inside.steps c.self.inside.stepper.list c.self.invariant.1 c.begin_take.ensures.few

pub invariant_of-self : goal.invariant_of-self
invariant_of-self g c = step_invariant consuming take_laws (step g (goal.at.invariant_of-self g c).After-step) c.step.new.steps c.step.ensures.none c.step.ensures.more

pub bring-requires : goal.bring-requires
bring-requires g c = step_room _ (step g (goal.at.bring-requires g c).After-step)

pub returns : goal.returns
returns g c =
    let s = step g (goal.at.returns g c).After-step in record {
      same = same_step consuming take_laws s;
      lawful = step_lawful consuming take_laws s;
      one = step_one _ s c.bring.result c.bring.ensures.told;
      none = step_none _ s c.step.new.steps c.step.ensures.none c.step.ensures.more c.bring.result c.bring.ensures.told (c.bring.new.into ≡ c.args.into.now) c.bring.ensures.none;
      some = step_some _ s c.bring.result c.bring.ensures.told c.bring.new.into c.bring.ensures.first;
      within = step_within _ s c.bring.result c.bring.ensures.told;
      long = c.bring.ensures.long;
      others = step_others _ s c.bring.result c.bring.ensures.told c.args.into.now c.bring.new.into c.bring.ensures.others;
      few = step_few consuming take_laws s;
      oracle = take_seen c.self.view_is (λ _ x. IsAskedOnce g.O.Oracle.answers x c.step.new.oracle) c.step.ensures.oracle;
      answered = take_seen c.self.view_is (λ e x. AreAnswered e c.step.new.stepper (g.O.Oracle.answers x) (g.O.Oracle.answers c.step.new.oracle)) c.step.ensures.stepped.answered;
    }
