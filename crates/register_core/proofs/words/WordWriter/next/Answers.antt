use Rattle.register_core.proofs.WordMachines.{writer-next}
use Rattle.register_core.proofs.words.WordWriter.next.Goals as goal

pub returns-then-self-clause-stands : goal.returns-then-self-clause-stands
returns-then-self-clause-stands c = rw (← c.self.view_is) (λ made stands. writer-next c.self.inside.width c.self.inside.cell c.self.inside.item c.self.inside.written c.if-self.true made stands)
