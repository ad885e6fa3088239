use Rattle.std.proofs.Common.{length, rules, sym, subst, ◌∙◌}
use Rattle.ring_ends.specs.CounterEnds.{TakeAllKept}
use Rattle.ring_ends.proofs.Common.{RingEnd, HasTakenAll}
use Rattle.ring_ends.proofs.StoredItems.{take_all_takes}
use Rattle.ring_ends.proofs.TakesAll.{kept_all, kept_within, still_open}
use Rattle.ring_ends.proofs.counter_takers.CounterTakerTakeEnd.take_all.Goals.{After-take_all_open-reply}
use Rattle.ring_ends.proofs.counter_takers.CounterTakerTakeEnd.take_all.Goals as goal

-- the end after the take
kept : (c : After-take_all_open-reply) → TakeAllKept c.self.inside.stepper c.take_all_open-reply.new.stepper c.take_all_open-reply.new.count c.take_all_open-reply.new.cell c.self.invariant.0 (length c.args.into.now) c.take_all_open-reply.result c.take_all_open-reply.new.into
kept c = c.take_all_open-reply.ensures.taken c.self.invariant.0 c.self.invariant.1 (still_open (c.self.invariant.0).end (sym c.self.invariant.2 ∙ c.if-self.false))

phrase : (c : After-take_all_open-reply) → HasTakenAll (c.take_all_open-reply.new.stepper).ring.shape (length c.args.into.now) c.args.self.now.list (c.take_all_open-reply.new.stepper).list c.take_all_open-reply.result c.take_all_open-reply.new.into
phrase c =
    let b = c.take_all_open-reply.new in
    let reply = c.take_all_open-reply.result in
    let wanted = length c.args.into.now in
    subst (λ (e : RingEnd). HasTakenAll (b.stepper).ring.shape wanted e.list (b.stepper).list reply b.into) c.self.view_is
    (kept_all c.self.inside.stepper b.stepper b.count b.cell c.self.invariant.0 wanted reply b.into c.self.invariant.1.has (kept c))

pub returns-clause-phrase : goal.returns-clause-phrase
returns-clause-phrase c = phrase (goal.at.returns-clause-phrase c).After-take_all_open-reply

pub returns-clause-taken : goal.returns-clause-taken
returns-clause-taken c = take_all_takes c.args.self.now c.take_all_open-reply.new.stepper (length c.args.into.now) c.take_all_open-reply.result c.take_all_open-reply.new.into (search rules) (phrase (goal.at.returns-clause-taken c).After-take_all_open-reply)

pub returns-clause-within : goal.returns-clause-within
returns-clause-within c =
    let b = c.take_all_open-reply.new in
    kept_within c.self.inside.stepper b.stepper b.count b.cell c.self.invariant.0 (length c.args.into.now) c.take_all_open-reply.result b.into c.self.invariant.1.has (kept (goal.at.returns-clause-within c).After-take_all_open-reply)
