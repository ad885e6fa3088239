use Rattle.std.proofs.Common.{◌+◌, ◌%◌, ap, arith, ◌∙◌}
use Rattle.ring_core.proofs.Common.{P, ProducerState}
use Rattle.ring_core.specs.declared.producers.Stage.TheVariants.{Counting}
use Rattle.ring_core.specs.contracts.producers.Producer.{the_view}
use Rattle.ring_core.proofs.Machines.MachineParts.{none_next, row_whole}
use Rattle.ring_core.proofs.Machines.ProducerInvariant.{at_stage}
use Rattle.ring_core.proofs.Machines.ProducerMoves.{count_on, count_over}
use Rattle.ring_core.proofs.producers.Producer.feed_count.Goals as goal

pub returns-then-is_none-clause-stands : goal.returns-then-is_none-clause-stands
returns-then-is_none-clause-stands c =
    let p : ProducerState = the_view c.self.inside in
    let (being, putting, keeping) = at_stage p Counting c.self.invariant.0 (rw (← c.self.view_is) at c.requires.stage) in
    rw (← c.self.view_is)
    (count_over p c.feed.new.self c.args.answer _ _ (rw (← c.self.view_is) at c.requires.stage) c.feed.ensures.stands putting.offers
    (omega (arith, keeping.0)) keeping.1
    (c.past_in-self-inside.ensures ∙ ap (λ k. (p.count + p.most) % k) c.modulus.ensures.value)
    (c.past_in-self-inside-then-is_none.ensures ∙ ap (λ k. (p.cell + p.most) % k) c.capacity.ensures.value)
    (row_whole P p.row c.feed.new.self c.next.result c.self.invariant.0.row_side c.feed.ensures.kept.side (none_next c.next.result c.is_none.result c.is_none.ensures c.if-is_none.true) c.next.ensures.stands))

pub returns-else-is_none-clause-stands : goal.returns-else-is_none-clause-stands
returns-else-is_none-clause-stands c =
    rw (← c.self.view_is) (count_on (the_view c.self.inside) c.feed.new.self c.args.answer (rw (← c.self.view_is) at c.requires.stage) c.feed.ensures.stands)
