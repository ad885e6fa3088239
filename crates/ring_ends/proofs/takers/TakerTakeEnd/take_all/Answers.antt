use Rattle.std.proofs.Common.{arith, ◌≡◌, ◌≤◌, IsSome, length, drop, refl, sym, ap, subst, ◌∙◌}
use Rattle.ring_ends.proofs.Common.{IfSome, HasTakenAll, number_brought, wants_next, AreAnswered, consuming}
use Rattle.ring_ends.proofs.MachineWhole.{Whole, idle_after, lawful_whole, same_whole, whole_invariant, whole_of}
use Rattle.ring_ends.proofs.TakerCalls.{begins_seen, take_begun, take_laws, take_seen, taking_seen}
use Rattle.ring_ends.proofs.StoredItems.{take_all_takes}
use Rattle.ring_ends.proofs.TakesAll.{Brought, brought_within, some_so, take_brought, told_of}
use Rattle.ring_ends.proofs.takers.TakerTakeEnd.take_all.Given.{Over}
use Rattle.ring_ends.proofs.takers.TakerTakeEnd.take_all.Goals.{After-finish}
use Rattle.ring_ends.proofs.takers.TakerTakeEnd.take_all.Goals as goal

-- the take, and the result of its accesses
abbrev done : (g : Over) (c : After-finish g) → Whole consuming (length c.args.into.now)
done g c = whole_of consuming (take_begun c.self.inside.oracle c.self.inside.stepper c.self.inside.machine c.self.inside.steps c.args.self.now c.self.view_is c.self.invariant (length c.args.into.now) c.begin_take.new.machine (begins_seen c.self.view_is c.self.inside.machine c.begin_take.new.machine (length c.args.into.now) (length c.args.into.now) (ap (λ t. wants_next t c.args.self.now.wanted (length c.args.into.now)) c.requires.idle) c.begin_take.ensures.begins))
    (taking_seen c.self.view_is ∙ c.requires.idle) c.finish.new.stepper c.finish.new.machine c.finish.ensures

pub finish-requires : goal.finish-requires
finish-requires g c = grind arith

pub invariant_of-self : goal.invariant_of-self
invariant_of-self g c = whole_invariant consuming take_laws (done g (goal.at.invariant_of-self g c).After-finish)

-- what it brought
brought : (g : Over) (c : After-finish g) → Brought c.finish.new.stepper.ring.shape (length c.args.into.now) c.args.self.now.end.list c.finish.new.stepper.list c.finish.new.machine.reply c.finish.new.machine.items
brought g c = take_brought (length c.args.into.now) (done g c)

pub bring-requires : goal.bring-requires
bring-requires g c = let b = brought g (goal.at.bring-requires g c).After-finish in subst (λ r. IfSome r (λ _. length c.finish.new.machine.items ≤ length c.args.into.now)) (sym b.told) b.few

pub unwrap-requires : goal.unwrap-requires
unwrap-requires g c = let b = brought g (goal.at.unwrap-requires g c).After-finish in subst IsSome (sym (c.bring.ensures.told ∙ b.told)) refl

pub returns : goal.returns
returns g c =
    let w = done g (goal.at.returns g c).After-finish in
    let b = brought g (goal.at.returns g c).After-finish in
    let told = c.bring.ensures.told ∙ b.told in
    let is = told_of c.bring.result b.reply told c.unwrap.result c.unwrap.ensures in
    let same = same_whole consuming take_laws w in
    let phrase = subst (λ y. HasTakenAll c.finish.new.stepper.ring.shape (length c.args.into.now) c.args.self.now.end.list c.finish.new.stepper.list y c.bring.new.into) is
    (b.phrase c.bring.new.into (some_so c.bring.result b.reply told c.bring.ensures.first)) in
    record {
      taken = take_all_takes c.args.self.now.end c.finish.new.stepper (length c.args.into.now) c.unwrap.result c.bring.new.into same phrase;
      idle = idle_after consuming take_laws w;
      same = same;
      lawful = lawful_whole consuming take_laws w;
      phrase = phrase;
      within = brought_within b c.unwrap.result (sym c.bring.ensures.told ∙ c.unwrap.ensures);
      long = c.bring.ensures.long;
      others = subst (λ n. drop n c.bring.new.into ≡ drop n c.args.into.now) (sym b.number ∙ ap number_brought is) (some_so c.bring.result b.reply told c.bring.ensures.others);
      answered = take_seen c.self.view_is (λ e x. AreAnswered e c.finish.new.stepper (g.O.Oracle.answers x) (g.O.Oracle.answers c.finish.new.oracle)) c.finish.ensures.answered;
    }
