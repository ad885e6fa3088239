use Rattle.std.proofs.Common.{◌∙◌}
use Rattle.ring_player.proofs.Nexts.{take_next}
use Rattle.ring_player.proofs.TakesSoFar.{taken_so_far}
use Rattle.ring_script.specs.Borrowed.{content_of}
use Rattle.ring_player.proofs.taking.TakeActor.look.Goals as goal

pub returns : goal.returns
returns g c list o s due =
    let x = c.args.self.now in
    taken_so_far (content_of x.script) x.consumer (g.T.Store.items x.taken) x.told x.empty list o c.next.result s (take_next _ _ c.next.ensures.rest c.next.ensures.goes_on) (λ a e. c.next.ensures.due ∙ due a e)
