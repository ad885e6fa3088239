use Rattle.std.proofs.Common.{refl, sym, subst}
use Rattle.ring_run.specs.Stored.{HasTook}
use Rattle.ring_ends.proofs.StoredItems.{none_took}
use Rattle.uses.proofs.two_threads.take_each.Goals as goal

pub takes-init : goal.takes-init
takes-init g c =
    let e = g.E.TakeEnd.end c.args.taker.now in
    (c.requires.idle, record { ring = refl; side = refl; known = refl }, subst (HasTook e) (sym c.requires.none) (none_took e c.requires.fresh))
