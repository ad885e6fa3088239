use Rattle.std.proofs.Common.{sym, ◌∙◌, subst}
use Rattle.bits_core.specs.declared.events.Side.TheVariants.{P}
use Rattle.ring_steps.specs.declared.Step.{Step}
use Rattle.ring_steps.specs.declared.Step.TheVariants.{Begin, End}
use Rattle.ring_steps.specs.Steps.{HasMadeStep}
use Rattle.uses.proofs.Driving.{began, fed, reads_one, was_due}
use Rattle.uses.proofs.by_hand.step_producer.Given.{Over}
use Rattle.uses.proofs.by_hand.step_producer.Goals.{In-End}
use Rattle.uses.proofs.by_hand.step_producer.Goals as goal

-- the event that was made ends the access that was due
ended : (g : Over) (c : In-End g) → HasMadeStep P c.next-due.result (g.O.Oracle.answers c.args.oracle.now 0) c.args.memory.now c.next_event.new.memory (End c.in-End.answer)
ended g c = subst (λ (x : Step). HasMadeStep P c.next-due.result (g.O.Oracle.answers c.args.oracle.now 0) c.args.memory.now c.next_event.new.memory x) c.in-End.is c.in_ok-step.ensures.step

pub feed-requires-clause-due : goal.feed-requires-clause-due
feed-requires-clause-due g c =
    let s = ended g (goal.at.feed-requires-clause-due g c).In-End in
    was_due c.subhistory_changes.ensures c.open_from_own.ensures c.open_changes.ensures c.made_leave_none_open.ensures c.args.memory.now c.args.producer.now c.requires.driven c.next_event.new.memory c.in_ok-step.ensures.shape s.0 c.in-End.answer s.1 s.3

pub feed-requires-clause-one : goal.feed-requires-clause-one
feed-requires-clause-one g c =
    let s = ended g (goal.at.feed-requires-clause-one g c).In-End in
    reads_one c.subhistory_changes.ensures c.open_from_own.ensures c.open_changes.ensures c.made_leave_none_open.ensures c.args.memory.now c.args.producer.now c.requires.driven c.next_event.new.memory c.in_ok-step.ensures.shape s.0 c.in-End.answer s.1 s.3
    c.last_bit_is_one.ensures.takes c.events-lawful.ensures.lawful c.expects_one-expects.result c.expects_one-expects.ensures.due c.expects_one-expects.ensures.stands

pub returns-in-Begin-clause-driven : goal.returns-in-Begin-clause-driven
returns-in-Begin-clause-driven g c =
    let s : HasMadeStep P c.next-due.result (g.O.Oracle.answers c.args.oracle.now 0) c.args.memory.now c.next_event.new.memory Begin =
    subst (λ (x : Step). HasMadeStep P c.next-due.result (g.O.Oracle.answers c.args.oracle.now 0) c.args.memory.now c.next_event.new.memory x) c.in-Begin.is c.in_ok-step.ensures.step in
    began c.subhistory_changes.ensures c.open_from_own.ensures c.open_changes.ensures c.made_leave_none_open.ensures c.args.memory.now c.args.producer.now c.requires.driven c.next_event.new.memory c.in_ok-step.ensures.shape s.0 (sym c.next-due.ensures.due ∙ s.1) s.2 s.3

pub returns-in-End-clause-driven : goal.returns-in-End-clause-driven
returns-in-End-clause-driven g c =
    let s = ended g (goal.at.returns-in-End-clause-driven g c).In-End in
    fed c.subhistory_changes.ensures c.open_from_own.ensures c.open_changes.ensures c.made_leave_none_open.ensures c.args.memory.now c.args.producer.now c.requires.driven c.next_event.new.memory c.in_ok-step.ensures.shape s.0 c.in-End.answer s.1 s.3
    c.feed.new.self c.feed.ensures.shape (λ calls made b stands due. c.feed.ensures.stands calls made b stands due)
