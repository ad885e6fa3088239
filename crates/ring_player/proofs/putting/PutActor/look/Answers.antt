use Rattle.std.proofs.Common.{◌∙◌}
use Rattle.ring_player.proofs.Nexts.{put_next}
use Rattle.ring_player.proofs.Writings.{put_so_far}
use Rattle.ring_script.specs.Borrowed.{content_of}
use Rattle.ring_player.proofs.putting.PutActor.look.Goals as goal

pub returns : goal.returns
returns c list o s w due =
    let x = c.args.self.now in
    put_so_far (content_of x.script) x.producer (record { stored = x.stored; full = x.full }) x.digits x.put list o c.next.result s w
    (put_next _ _ c.next.ensures.rest c.next.ensures.goes_on) (λ a e. c.next.ensures.due ∙ due a e)
