use Rattle.ring_audit.proofs.DueLemmas.{dues_behind}
use Rattle.ring_audit.proofs.dues.due_behind.Goals as goal

pub returns-in-None-clause-due : goal.returns-in-None-clause-due
returns-in-None-clause-due c e = (λ is. absurd (c.none.ensures.none e is), λ on. absurd (c.in-None.ensures.stands e on.1))

pub returns-in-Some-clause-due : goal.returns-in-Some-clause-due
returns-in-Some-clause-due c = dues_behind c.in-Some.readers.puts.shape c.args.shape.now c.args.events.now c.args.side _ _ c.dues.result c.in-Some.ensures.shapes.0 c.in-Some.ensures.stands c.dues.ensures.due
