use Rattle.std.proofs.Common.{◌≡◌, arith}
use Rattle.register_core.specs.WordState.{ReaderState}
use Rattle.register_core.proofs.WordMachines.{reader-next}
use Rattle.register_core.proofs.words.WordReader.next.Goals as goal

pub returns-then-self-clause-stands : goal.returns-then-self-clause-stands
returns-then-self-clause-stands c =
    let r : ReaderState = record { width = c.self.inside.width; cell = c.self.inside.cell; read = c.self.inside.read; value = c.self.inside.value } in
    rw (← c.self.view_is) (λ made stands. reader-next r made stands c.if-self.true)

pub returns-else-self-clause-stands : goal.returns-else-self-clause-stands
returns-else-self-clause-stands c =
    let whole : c.self.inside.read ≡ c.self.inside.width = omega (arith, c.self.invariant, c.if-self.false) in
    rw (← c.self.view_is) (λ made stands. rw (← whole) (c.self.inside.value, (stands.fits, stands.made_is)))
