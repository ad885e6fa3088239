use Rattle.std.proofs.Common.{◌∙◌}
use Rattle.ring_player.proofs.Nexts.{take_next}
use Rattle.ring_player.proofs.Takings.{begins_access}
use Rattle.ring_script.specs.Borrowed.{content_of}
use Rattle.ring_player.proofs.taking.TakeActorActor.begin.Goals as goal

pub returns-clause-stands : goal.returns-clause-stands
returns-clause-stands g c list a is s =
    let x = c.args.self.now in
    begins_access (content_of x.script) x.consumer (g.T.Store.items x.taken) x.told x.empty list c.next.result a s (take_next _ _ c.next.ensures.rest c.next.ensures.goes_on) (c.next.ensures.due ∙ is)
