use Rattle.std.proofs.Common.{ℕ, ◌<◌, sym, subst, ap, ◌∙◌}
use Rattle.ring_seats.specs.Ring.{Ring}
use Rattle.ring_seats.proofs.Moves.{learns}
use Rattle.ring_seats.proofs.words.Words.learn.Goals as goal

pub load-requires : goal.load-requires
load-requires g c =
    let t = c.self.inside.shared.now in (
      c.requires.own.0 ∙ sym (ap (λ (r : Ring). r.id) c.self.view_is),
      subst (λ (n : ℕ). 0 < n) (sym c.self.invariant.1) c.self.invariant.2,
      learns t.key g.K.WordKind.count g.K.WordKind.shows t.table_id.slots c.args.seat.now.id 0 c.args.seat.now.me c.requires.own.1 c.requires.own.2 c.requires.idle.0 c.requires.idle.1,
    )
