use Rattle.std.proofs.Common.{arith, length, ap}
use Rattle.register_core.proofs.Digits.{length-reads}
use Rattle.register_core.proofs.words.WordReader.value.Goals as goal

pub returns-else-self-clause-stands : goal.returns-else-self-clause-stands
returns-else-self-clause-stands c =
    rw (← c.self.view_is) (λ made stands. omega (arith, ap length stands.made_is, length-reads c.self.inside.cell c.self.inside.value c.self.inside.read, c.if-self.false, c.self.invariant))
