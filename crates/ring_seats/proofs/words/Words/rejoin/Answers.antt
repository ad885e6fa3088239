use Rattle.std.proofs.Common.{ℕ, ◌<◌, sym, subst, ap, ◌∙◌}
use Rattle.ring_seats.specs.Ring.{Ring}
use Rattle.ring_seats.proofs.Moves.{joins}
use Rattle.ring_seats.proofs.words.Words.rejoin.Goals as goal

pub join_seat-requires : goal.join_seat-requires
join_seat-requires g c =
    let id = ap (λ (r : Ring). r.id) c.self.view_is in (
      c.requires.own.0 ∙ sym id,
      c.requires.own.1 ∙ sym id,
      c.requires.own.2,
      subst (λ (n : ℕ). 0 < n) (sym c.self.invariant.1) c.self.invariant.2,
      joins _ _ _ _ _ _ _ c.requires.sides.0 c.requires.sides.1 c.requires.idle.0 c.requires.idle.1,
    )
