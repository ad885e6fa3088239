use Rattle.std.proofs.Common.{ℕ, ◌<◌, sym, subst, ap, ◌∙◌}
use Rattle.ring_seats.specs.Ring.{Ring}
use Rattle.ring_seats.proofs.Moves.{splits}
use Rattle.ring_seats.proofs.words.Words.part.Goals as goal

pub split_seat-requires : goal.split_seat-requires
split_seat-requires g c = (
  c.requires.own.0 ∙ sym (ap (λ (r : Ring). r.id) c.self.view_is),
  subst (λ (n : ℕ). 0 < n) (sym c.self.invariant.1) c.self.invariant.2,
  splits _ _ _ _ _ c.requires.own.1 c.requires.own.2,
)
