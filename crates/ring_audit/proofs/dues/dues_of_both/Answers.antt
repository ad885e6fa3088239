use Rattle.bits_core.specs.declared.events.Side.TheVariants.{P, C}
use Rattle.ring_audit.proofs.DueLemmas.{dues_behind}
use Rattle.ring_audit.proofs.dues.dues_of_both.Goals as goal

pub returns-in-None-clause-puts : goal.returns-in-None-clause-puts
returns-in-None-clause-puts c e = (λ is. absurd (c.none.ensures.none e is), λ on. absurd (c.in-None.ensures.stands e on.1))

pub returns-in-None-clause-takes : goal.returns-in-None-clause-takes
returns-in-None-clause-takes c e = (λ is. absurd (c.none-in-None.ensures.none e is), λ on. absurd (c.in-None.ensures.stands e on.1))

pub returns-in-Some-clause-puts : goal.returns-in-Some-clause-puts
returns-in-Some-clause-puts c = dues_behind c.in-Some.readers.puts.shape c.args.shape.now c.args.events.now P _ _ c.dues.result c.in-Some.ensures.shapes.0 c.in-Some.ensures.stands c.dues.ensures.due

pub returns-in-Some-clause-takes : goal.returns-in-Some-clause-takes
returns-in-Some-clause-takes c = dues_behind c.in-Some.readers.puts.shape c.args.shape.now c.args.events.now C _ _ c.dues-in-Some.result c.in-Some.ensures.shapes.0 c.in-Some.ensures.stands c.dues-in-Some.ensures.due
