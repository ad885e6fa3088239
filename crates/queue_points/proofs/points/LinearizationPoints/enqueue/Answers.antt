use Rattle.std.proofs.Common.{◌≡◌, ◌∙◌, suc, ◌+◌, ◌<◌, false, [], ◌∷◌, ◌++◌, length, get_or, refl, sym, ap, arith}
use Rattle.queue_calls.specs.Queue.{queue}
use Rattle.queue_points.specs.Steps.{stretch}
use Rattle.queue_points.proofs.Stretches.{longer}
use Rattle.queue_points.proofs.points.LinearizationPoints.enqueue.Goals as goal

pub returns-in_default : goal.returns-in_default
returns-in_default c = (refl, λ next t leads. c.in_default.ensures.exact refl t.producer leads.producer)

pub returns : goal.returns
returns c =
    let m = c.args.self.now in
    let row = m.row.now in
    let item = c.args.item in
    let is : get_or row m.tail 0 ≡ item = c.if-self-item.false in
    let more : m.tail < length row = omega (arith, m.within, c.if-self-2.false) in
    let next : suc m.tail ≡ m.tail + 1 = omega arith in (
      record {
        queue = (
          c.if-not-has_room.ensures.0 refl,
          c.if-self.false,
          ap (λ closed. queue (stretch row m.head (m.tail + 1)) closed) c.if-self.false ∙ ap (λ n. queue (stretch row m.head n) false) (sym next) ∙
              ap (λ items. queue items false) (longer row m.head m.tail m.out more ∙ ap (λ i. stretch row m.head m.tail ++ i ∷ []) is),
        );
        producer = c.in-Some.ensures.step;
        consumer = refl;
      },
      refl,
      refl,
      refl,
    )
