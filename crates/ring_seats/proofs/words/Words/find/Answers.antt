use Rattle.std.proofs.Common.{ℕ, ◌<◌, sym, ap, ◌∙◌, subst}
use Rattle.ring_seats.specs.Ring.{Ring}
use Rattle.ring_seats.proofs.Moves.{finds}
use Rattle.ring_seats.proofs.words.Words.find.Goals as goal

pub load_new_seat-found-requires : goal.load_new_seat-found-requires
load_new_seat-found-requires g c =
    let t = c.self.inside.shared.now in
    let shape = ap (λ (r : Ring). r.shape) c.self.view_is in (
      subst (λ (n : ℕ). c.args.word < n) (sym (c.self.invariant.1 ∙ ap g.K.WordKind.count shape)) c.requires,
      finds g.K.WordKind.count g.K.WordKind.shows t.key t.table_id.slots c.args.word,
    )
