use Rattle.std.proofs.Common.{◌∙◌, ap}
use Rattle.ring_player.proofs.Common.{width_of, content_of}
use Rattle.ring_player.proofs.Nexts.{put_next}
use Rattle.ring_player.proofs.Puttings.{begins_access}
use Rattle.ring_player.proofs.Writings.{begins_writing}
use Rattle.ring_player.proofs.putting.PutActorActor.begin.Goals as goal

pub returns-clause-stands : goal.returns-clause-stands
returns-clause-stands c list a is s =
    let x = c.args.self.now in (
      begins_access (content_of x.script) x.producer (record { stored = x.stored; full = x.full }) list c.next-due.result a s.0 (put_next _ _ c.next-due.ensures.rest c.next-due.ensures.goes_on) (c.next-due.ensures.due ∙ is),
      begins_writing (content_of x.script) x.digits x.put list a c.next-due.result c.width.result c.put_by-self.result (c.next-due.ensures.due ∙ is) (c.width.ensures.value ∙ ap width_of c.shape.ensures) c.put_by-self.ensures s.1,
    )
