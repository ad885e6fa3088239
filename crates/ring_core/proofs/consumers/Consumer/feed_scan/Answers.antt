use Rattle.std.proofs.Common.{◌≡◌, ⊎_elim}
use Rattle.ring_core.specs.declared.consumers.Stage.TheVariants.{Scanning}
use Rattle.ring_core.specs.contracts.consumers.Consumer.{the_view}
use Rattle.ring_core.specs.ConsumerState.{ConsumerState}
use Rattle.ring_core.proofs.Machines.MachineParts.{no_value, denied}
use Rattle.ring_core.proofs.Machines.ConsumerMoves.{scan_none, rescan_none}
use Rattle.ring_core.proofs.TakeScans.{IsAtScan, has_given, open_keeps, open_on, item_there}
use Rattle.ring_core.proofs.consumers.Consumer.feed_scan.Goals as goal

pub invariant_of-self : goal.invariant_of-self
invariant_of-self c =
    let p : ConsumerState = the_view c.self.inside in
    let at : IsAtScan p = rw (← c.self.view_is) at c.requires.stage in
    let open_still = no_value c.feed.new.self c.value.result c.value.ensures.state c.in-None.is in
    let (is, taken, wanted, most) = c.self.invariant in
    (open_keeps p c.feed.new.self c.args.answer at is (rw (← c.self.view_is) at c.requires.one) c.feed.ensures.state open_still, taken, wanted, most)

pub returns-in-None-clause-stands : goal.returns-in-None-clause-stands
returns-in-None-clause-stands c =
    rw (← c.self.view_is) (open_on (the_view c.self.inside) c.feed.new.self c.args.answer (rw (← c.self.view_is) at c.requires.stage) c.feed.ensures.stands)

pub returns-then-has_item-clause-stands : goal.returns-then-has_item-clause-stands
returns-then-has_item-clause-stands c =
    let at : IsAtScan (the_view c.self.inside) = rw (← c.self.view_is) at c.requires.stage in
    let g = has_given (the_view c.self.inside) c.feed.new.self c.args.answer c.value.result c.in-Some.seen at c.self.invariant.0 c.feed.ensures c.in-Some.is c.value.ensures.stands in
    let shown = c.items_shown-self-inside.ensures in
    rw (← c.self.view_is)
    (item_there (the_view c.self.inside) c.feed.new.self c.new-self-inside.result c.args.answer c.in-Some.seen c.items_shown-self-inside.result g shown.shown shown.few shown.all
    c.new-self-inside.ensures.stands (c.has_item.ensures.0 c.if-has_item.true))

pub returns-in-Rescanning-clause-stands : goal.returns-in-Rescanning-clause-stands
returns-in-Rescanning-clause-stands c =
    let at : IsAtScan (the_view c.self.inside) = rw (← c.self.view_is) at c.requires.stage in
    let g = has_given (the_view c.self.inside) c.feed.new.self c.args.answer c.value.result c.in-Some.seen at c.self.invariant.0 c.feed.ensures c.in-Some.is c.value.ensures.stands in
    rw (← c.self.view_is)
    (rescan_none (the_view c.self.inside) c.feed.new.self c.args.answer c.in-Some.seen g.fresh c.in-Rescanning.is g.goes g.is_scan (denied c.has_item.result c.has_item.ensures.1 c.if-has_item.false))

pub returns-in_default-clause-stands : goal.returns-in_default-clause-stands
returns-in_default-clause-stands c =
    let at : IsAtScan (the_view c.self.inside) = rw (← c.self.view_is) at c.requires.stage in
    let g = has_given (the_view c.self.inside) c.feed.new.self c.args.answer c.value.result c.in-Some.seen at c.self.invariant.0 c.feed.ensures c.in-Some.is c.value.ensures.stands in
    let first : c.self.inside.stage ≡ Scanning = ⊎_elim (λ e. e) (λ e. absurd (c.in_default.not-Rescanning e)) g.at in
    rw (← c.self.view_is)
    (scan_none (the_view c.self.inside) c.feed.new.self c.args.answer c.in-Some.seen first g.goes g.is_scan (denied c.has_item.result c.has_item.ensures.1 c.if-has_item.false))
