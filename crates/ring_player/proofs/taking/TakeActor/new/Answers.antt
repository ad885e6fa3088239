use Rattle.std.proofs.Common.{false, ap, subst, sym, ◌∙◌, None, []}
use Rattle.ring_core.specs.ConsumerCalls.{new_consumer}
use Rattle.ring_player.specs.Actors.{TakeActorStands}
use Rattle.ring_player.proofs.Takings.{new_taking}
use Rattle.ring_script.specs.Borrowed.{content_of}
use Rattle.ring_player.proofs.taking.TakeActor.new.Goals as goal

pub returns-clause-stands : goal.returns-clause-stands
returns-clause-stands g c =
    subst (λ l. TakeActorStands (content_of c.args.script) c.new.result l false 0 [] None) (sym c.requires)
    (new_taking (content_of c.args.script) c.new.result (c.new.ensures.state ∙ ap new_consumer c.shape.ensures) c.new.ensures.stands)
