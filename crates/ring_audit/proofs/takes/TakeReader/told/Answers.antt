use Rattle.std.proofs.Common.{ℕ, List, subst}
use Rattle.bits_core.specs.declared.events.Event.{Event}
use Rattle.ring_audit.specs.TakeReading.{TakeReading, TakesStand, WereTaken, tells_closed}
use Rattle.ring_audit.proofs.TakeEnds.{has_taken}
use Rattle.ring_audit.proofs.takes.TakeReader.told.Goals as goal

pub returns : goal.returns
returns c =
    let p = c.self.inside.consumer in
    let o = c.self.inside.open_access in
    let proved = has_taken p o c.next-due.result c.reply.result c.self.invariant.0 c.next-due.ensures.due c.next-due.ensures.goes_on c.next-due.ensures.rest c.reply.ensures.stands in
    rw c.was_told.ensures (subst (λ (r : TakeReading). (es : List Event) (items : List ℕ) → TakesStand r.consumer.shape r es items → WereTaken r.consumer.shape es items (tells_closed c.reply.result)) c.self.view_is proved)
