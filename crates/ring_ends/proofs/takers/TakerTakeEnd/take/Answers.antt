use Rattle.std.proofs.Common.{arith, IsSome, refl, sym, ap, subst, ◌∙◌}
use Rattle.ring_ends.specs.Ends.{HasTaken, wants_next}
use Rattle.ring_ends.proofs.Common.{AreAnswered, consuming}
use Rattle.ring_ends.proofs.MachineWhole.{Whole, idle_after, lawful_whole, same_whole, whole_invariant, whole_of}
use Rattle.ring_ends.proofs.PutterWhole.{told_so}
use Rattle.ring_ends.proofs.StoredItems.{take_takes}
use Rattle.ring_ends.proofs.TakerCalls.{begins_seen, take_begun, take_laws, take_seen, taking_seen}
use Rattle.ring_ends.proofs.TakerWhole.{take_ended}
use Rattle.ring_ends.proofs.takers.TakerTakeEnd.take.Given.{Over}
use Rattle.ring_ends.proofs.takers.TakerTakeEnd.take.Goals.{After-finish}
use Rattle.ring_ends.proofs.takers.TakerTakeEnd.take.Goals as goal

-- the take, and the result of its accesses
abbrev done : (g : Over) (c : After-finish g) → Whole consuming 1
done g c = whole_of consuming (take_begun c.self.inside.oracle c.self.inside.stepper c.self.inside.machine c.self.inside.steps c.args.self.now c.self.view_is c.self.invariant 1 c.begin_take.new.machine (begins_seen c.self.view_is c.self.inside.machine c.begin_take.new.machine 1 1 (ap (λ t. wants_next t c.args.self.now.wanted 1) c.requires.idle) c.begin_take.ensures.begins))
    (taking_seen c.self.view_is ∙ c.requires.idle) c.finish.new.stepper c.finish.new.machine c.finish.ensures

pub finish-requires : goal.finish-requires
finish-requires g c = grind arith

pub invariant_of-self : goal.invariant_of-self
invariant_of-self g c = whole_invariant consuming take_laws (done g (goal.at.invariant_of-self g c).After-finish)

pub unwrap-requires : goal.unwrap-requires
unwrap-requires g c = let told = take_ended 1 (done g (goal.at.unwrap-requires g c).After-finish) in subst IsSome (sym (c.reply.ensures.state ∙ told.1)) refl

pub returns : goal.returns
returns g c =
    let w = done g (goal.at.returns g c).After-finish in
    let same = same_whole consuming take_laws w in
    let phrase = told_so (HasTaken c.finish.new.stepper.ring.shape c.args.self.now.end.list c.finish.new.stepper.list) c.finish.new.machine.reply (take_ended 1 w) c.unwrap.result (sym c.reply.ensures.state ∙ c.unwrap.ensures) in
    record {
      idle = idle_after consuming take_laws w;
      taken = take_takes c.args.self.now.end c.finish.new.stepper c.unwrap.result same phrase;
      same = same;
      lawful = lawful_whole consuming take_laws w;
      phrase = phrase;
      answered = take_seen c.self.view_is (λ e x. AreAnswered e c.finish.new.stepper (g.O.Oracle.answers x) (g.O.Oracle.answers c.finish.new.oracle)) c.finish.ensures.answered;
    }
