use Rattle.std.proofs.Common.{◌≡◌, ◌⊎◌, ◌<◌, ◌≤◌, true, length, None, ap, sym, subst, ◌∙◌, arith}
use Rattle.bits_core.specs.Shape.{take_batch_of}
use Rattle.ring_player.proofs.Nexts.{take_next, NextTake as NextOf}
use Rattle.ring_player.proofs.Puttings.{none_of}
use Rattle.ring_player.proofs.Takings.{began_take, is_done}
use Rattle.ring_script.specs.Borrowed.{content_of}
use Rattle.ring_player.proofs.taking.TakeActor.begin_take.Goals as goal
use Rattle.ring_player.proofs.taking.TakeActor.begin_take.Goals.{else-not-self-via-then-not-self+else-wanted-gt0, else-not-self-via-else-not-self}

pub take_all-requires-clause-few : goal.take_all-requires-clause-few
take_all-requires-clause-few g c =
    let x = c.args.self.now in
    omega (arith, c.wanted-wanted.ensures.few, ap take_batch_of x.same_shape)

pub returns-then-wanted-gt0-clause-stands : goal.returns-then-wanted-gt0-clause-stands
returns-then-wanted-gt0-clause-stands g c list s =
    let x = c.args.self.now in
    let left : length (g.T.Store.items x.taken) < (content_of x.script).takes = omega (arith, c.if-wanted-gt0.true, c.wanted-wanted.ensures.value) in
    began_take (content_of x.script) x.consumer c.take_all.new.self (g.T.Store.items x.taken) x.told x.empty list s left c.if-not-self.true
    (λ e. let begun = c.take_all.ensures.begun e in (begun.0, begun.1 ∙ c.wanted-wanted.ensures.value)) c.take_all.ensures.shape c.take_all.ensures.stands

pub returns-else-not-self-clause-done : goal.returns-else-not-self-clause-done
returns-else-not-self-clause-done g c none list s =
    let x = c.args.self.now in
    let next : NextOf x.consumer None = subst (λ d. NextOf x.consumer d) (none_of c.next.result (sym c.is_some.ensures ∙ c.if-is_some.false)) (take_next _ _ c.next.ensures.rest c.next.ensures.goes_on) in
    let over : (x.told ≡ true) ⊎ ((content_of x.script).takes ≤ length (g.T.Store.items x.taken)) = grind (arith, c.wanted-wanted.ensures.value) in
    is_done (content_of x.script) x.consumer (g.T.Store.items x.taken) x.told x.empty list s next over
