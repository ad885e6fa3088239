use Rattle.std.proofs.Common.{◌≡◌, ap, sym, subst, ◌∙◌}
use Rattle.ring_seats.specs.Ring.{RingEnd}
use Rattle.ring_ends.specs.Stored.{TakesAreAll}
use Rattle.ring_held.specs.Held.{held_end}
use Rattle.ring_held.proofs.rings.finish.Goals as goal

pub returns-clause-all : goal.returns-clause-all
returns-clause-all g c =
    let ep : c.at.result ≡ c.args.putter = c.at.ensures ∙ sym (sym c.putter.view_is ∙ ap (held_end _) c.in-Some-Some.is-0) in
    let ec : c.at-2.result ≡ c.args.taker = c.at-2.ensures ∙ sym (sym c.taker.view_is ∙ ap (held_end _) c.in-Some-Some.is-1) in
    subst (λ (z : RingEnd × RingEnd). TakesAreAll z.0 z.1 c.finish.result.told) (λ i. (ep i, ec i)) c.finish.ensures.all
