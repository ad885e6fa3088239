use Rattle.std.proofs.Common.{◌≡◌, ◌⊎◌, ◌+◌, length, subst, sym, arith}
use Rattle.ring_core.proofs.Common.{capacity_of, modulus_of, distance, ProducerState}
use Rattle.ring_core.proofs.Machines.Batches.{taken_so}
use Rattle.ring_core.specs.contracts.producers.Producer.{the_view}
use Rattle.ring_core.proofs.Machines.MachineParts.{no_value, denied}
use Rattle.ring_core.proofs.Machines.ProducerInvariant.{scan_keeps, has_given}
use Rattle.ring_core.proofs.Machines.ProducerMoves.{scan_on, scan_room, scan_full}
use Rattle.ring_core.proofs.producers.Producer.feed_scan.Goals as goal

pub invariant_of-self : goal.invariant_of-self
invariant_of-self c =
    let open_still = no_value c.feed.new.self c.value.result c.value.ensures.state c.in-None.is in
    let keeps = scan_keeps (the_view c.self.inside) c.feed.new.self c.args.answer c.self.invariant.0 (rw (← c.self.view_is) at c.requires.stage)
    (rw (← c.self.view_is) at c.requires.one) c.feed.ensures.state open_still in
    (keeps, c.self.invariant.1, c.self.invariant.2, c.self.invariant.3)

pub returns-in-None-clause-stands : goal.returns-in-None-clause-stands
returns-in-None-clause-stands c =
    rw (← c.self.view_is) (scan_on (the_view c.self.inside) c.feed.new.self c.args.answer (rw (← c.self.view_is) at c.requires.stage) c.feed.ensures.stands)

pub returns-then-has_room-clause-stands : goal.returns-then-has_room-clause-stands
returns-then-has_room-clause-stands c =
    let g = has_given (the_view c.self.inside) c.feed.new.self c.args.answer c.value.result c.in-Some.seen (rw (← c.self.view_is) at c.requires.stage) c.self.invariant.0 c.feed.ensures
    c.in-Some.is c.value.ensures.stands in
    let p : ProducerState = the_view c.self.inside in
    let offered : length p.items ≡ c.self.inside.offered = taken_so c.self.inside.items c.self.inside.offered (omega (arith, c.self.ranges, c.self.invariant.1)) in
    rw (← c.self.view_is)
    (scan_room p c.feed.new.self c.args.answer c.in-Some.seen c.fitting-self-inside.result g.stage_is g.goes g.fresh g.start g.is_scan c.fitting-self-inside.ensures.room
    (subst (λ n. (c.fitting-self-inside.result ≡ n) ⊎ (distance (modulus_of p.shape) p.count c.in-Some.seen + c.fitting-self-inside.result ≡ capacity_of p.shape)) (sym offered)
    c.fitting-self-inside.ensures.all))

pub returns-else-has_room-clause-stands : goal.returns-else-has_room-clause-stands
returns-else-has_room-clause-stands c =
    let g = has_given (the_view c.self.inside) c.feed.new.self c.args.answer c.value.result c.in-Some.seen (rw (← c.self.view_is) at c.requires.stage) c.self.invariant.0 c.feed.ensures
    c.in-Some.is c.value.ensures.stands in
    rw (← c.self.view_is)
    (scan_full (the_view c.self.inside) c.feed.new.self c.args.answer c.in-Some.seen g.stage_is g.goes g.is_scan (denied c.has_room.result c.has_room.ensures.1 c.if-has_room.false))
