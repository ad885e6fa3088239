use Rattle.std.proofs.Common.{◌≡◌, ◌∙◌, ℕ, suc, ◌+◌, ◌<◌, ◌∷◌, get_or, refl, sym, ap, subst, arith}
use Rattle.queue_calls.specs.Queue.{Dequeue}
use Rattle.queue_calls.specs.Calls.{Effect, ConsumerStep}
use Rattle.queue_points.specs.Steps.{consumer_of, stretch}
use Rattle.queue_points.proofs.Stretches.{first}
use Rattle.queue_points.proofs.points.LinearizationPoints.dequeue.Goals as goal

pub returns-in_default : goal.returns-in_default
returns-in_default c = (
  refl,
  λ next t leads.
      let m = c.args.self.now in
      let is : get_or m.row.now m.head 0 ≡ c.args.item = c.if-self-item.false in
      let step : ConsumerStep (consumer_of m.row.now m.head m.take) (Effect (Dequeue c.args.item)) t.consumer = leads.consumer in
      c.in_default.ensures.exact refl t.consumer
      (subst (λ (i : ℕ). ConsumerStep (consumer_of m.row.now m.head m.take) (Effect (Dequeue i)) t.consumer) (sym is) step),
)

pub returns : goal.returns
returns c =
    let m = c.args.self.now in
    let row = m.row.now in
    let item = c.args.item in
    let take = c.in-Some.take in
    let is : get_or row m.head 0 ≡ item = c.if-self-item.false in
    let some : m.head < m.tail = omega (arith, m.out, c.if-self.false) in
    let next : suc m.head ≡ m.head + 1 = omega arith in
    let step : ConsumerStep (consumer_of row m.head m.take) (Effect (Dequeue (get_or row m.head 0))) (consumer_of row (suc m.head) take) = c.in-Some.ensures.step in
    let step : ConsumerStep (consumer_of row m.head m.take) (Effect (Dequeue item)) (consumer_of row (m.head + 1) take) =
    subst (λ (n : ℕ). ConsumerStep (consumer_of row m.head m.take) (Effect (Dequeue item)) (consumer_of row n take)) next
    (subst (λ (i : ℕ). ConsumerStep (consumer_of row m.head m.take) (Effect (Dequeue i)) (consumer_of row (suc m.head) take)) is step) in (
      record {
        queue = (first row m.head m.tail some m.within ∙ ap (λ i. i ∷ stretch row (suc m.head) m.tail) is ∙ ap (λ n. item ∷ stretch row n m.tail) next, refl);
        producer = refl;
        consumer = step;
      },
      refl,
      refl,
      omega arith,
    )
