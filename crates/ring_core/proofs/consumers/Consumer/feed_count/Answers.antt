use Rattle.std.proofs.Common.{Some, ◌+◌, ◌%◌, ap, arith, ◌∙◌}
use Rattle.ring_core.proofs.Common.{C, ConsumerState}
use Rattle.ring_core.specs.declared.consumers.Stage.TheVariants.{Counting}
use Rattle.ring_core.specs.contracts.consumers.Consumer.{the_view}
use Rattle.ring_core.proofs.CountRow.{take_batch_below}
use Rattle.ring_core.proofs.Machines.MachineParts.{none_next, row_whole}
use Rattle.ring_core.proofs.Machines.ConsumerInvariant.{at_stage}
use Rattle.ring_core.proofs.Machines.ConsumerMoves.{count_on, count_over}
use Rattle.ring_core.proofs.consumers.Consumer.feed_count.Goals as goal

pub returns-then-is_none-clause-stands : goal.returns-then-is_none-clause-stands
returns-then-is_none-clause-stands c =
    let p : ConsumerState = the_view c.self.inside in
    let (being, taking, least, size, few) = at_stage p Counting c.self.invariant.0 (rw (← c.self.view_is) at c.requires.stage) in
    rw (← c.self.view_is)
    (count_over p c.feed.new.self c.args.answer _ _ _ (rw (← c.self.view_is) at c.requires.stage) c.feed.ensures.stands
    least size (omega (arith, few, taking.few)) (ap Some c.item_reply.ensures)
    (c.past_in-self-inside.ensures ∙ ap (λ k. (p.count + p.most) % k) c.modulus.ensures.value)
    (c.past_in-self-inside-then-is_none.ensures ∙ ap (λ k. (p.cell + p.most) % k) c.capacity.ensures.value)
    (row_whole C p.row c.feed.new.self c.next.result c.self.invariant.0.row_side c.feed.ensures.kept.side
    (none_next c.next.result c.is_none.result c.is_none.ensures c.if-is_none.true) c.next.ensures.stands))

pub returns-else-is_none-clause-stands : goal.returns-else-is_none-clause-stands
returns-else-is_none-clause-stands c =
    rw (← c.self.view_is) (count_on (the_view c.self.inside) c.feed.new.self c.args.answer (rw (← c.self.view_is) at c.requires.stage) c.feed.ensures.stands)

pub past_in-self-inside-requires : goal.past_in-self-inside-requires
past_in-self-inside-requires c =
    let p : ConsumerState = the_view c.self.inside in
    let (being, taking, least, size, few) = at_stage p Counting c.self.invariant.0 (rw (← c.self.view_is) at c.requires.stage) in (
      omega (arith, c.self.invariant.0.count_below, c.modulus.ensures.value),
      omega (arith, few, taking.few, take_batch_below p.shape, c.modulus.ensures.value),
      omega (arith, c.modulus.ensures.few),
    )

pub past_in-self-inside-requires-then-is_none : goal.past_in-self-inside-requires-then-is_none
past_in-self-inside-requires-then-is_none c =
    let p : ConsumerState = the_view c.self.inside in
    let (being, taking, least, size, few) = at_stage p Counting c.self.invariant.0 (rw (← c.self.view_is) at c.requires.stage) in (
      omega (arith, c.self.invariant.0.cell_below, c.capacity.ensures.value),
      omega (arith, few, taking.few, p.shape.small_take_batch, c.capacity.ensures.value),
      omega (arith, c.capacity.ensures.few),
    )
