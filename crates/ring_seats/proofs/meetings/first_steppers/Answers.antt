use Rattle.std.proofs.Common.{◌≡◌, [], refl, ap, subst, sym, ◌∙◌}
use Rattle.ring_seats.proofs.Common.{P, C, Shape, View}
use Rattle.ring_seats.specs.Steppers.{StandsAs}
use Rattle.ring_seats.specs.Rule.{Stands, joint, list_of, putter_of, taker_of}
use Rattle.ring_seats.proofs.Moves.{ring_empty}
use Rattle.ring_seats.proofs.meetings.first_steppers.Goals as goal

-- at first both ends are in the empty history
putter_starts : (shape : Shape) (v : View) → v ≡ putter_of (joint [] [] [] []) → Stands shape P (list_of P v) v.known
putter_starts shape v is = subst (λ w. Stands shape P (list_of P w) w.known) (sym is) (record { history = []; ring = ring_empty shape; list_is = refl; begins = ([], refl) })

taker_starts : (shape : Shape) (v : View) → v ≡ taker_of (joint [] [] [] []) → Stands shape C (list_of C v) v.known
taker_starts shape v is = subst (λ w. Stands shape C (list_of C w) w.known) (sym is) (record { history = []; ring = ring_empty shape; list_is = refl; begins = ([], refl) })

pub returns-clause-lawful : goal.returns-clause-lawful
returns-clause-lawful g c =
    let start = c.requires.1 in
    let part = c.part-other.ensures in (
      subst (StandsAs P) (sym c.stepper.ensures) (putter_starts c.again-same.result.shape c.part-other.new.seat.me.0 (ap (λ m. m.0) part.putter.1 ∙ ap (λ m. putter_of m.0) start)),
      subst (StandsAs C) (sym c.stepper-2.ensures) (taker_starts c.args.ring.shape c.part-other.result.me.0 (ap (λ m. m.0) part.taker.1 ∙ ap (λ m. taker_of m.0) start)),
    )
