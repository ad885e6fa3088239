use Rattle.std.proofs.Common.{ap, ◌∙◌}
use Rattle.ring_core.specs.ProducerCalls.{new_producer}
use Rattle.ring_player.proofs.Puttings.{new_putting}
use Rattle.ring_script.specs.Borrowed.{content_of}
use Rattle.ring_player.proofs.putting.PutActor.new.Goals as goal

pub returns-clause-stands : goal.returns-clause-stands
returns-clause-stands c = new_putting (content_of c.args.script) c.new.result (c.new.ensures.state ∙ ap new_producer c.shape.ensures) c.new.ensures.stands
