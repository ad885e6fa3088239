use Rattle.bits_core.specs.declared.events.Bit.TheVariants.{S, R}
use Rattle.register_core.proofs.ScanMachine.{scan-next}
use Rattle.register_core.proofs.scans.UnaryScan.next.Goals as goal

pub returns-in-P-clause-stands : goal.returns-in-P-clause-stands
returns-in-P-clause-stands c = rw (← c.self.view_is, c.in-P.is, c.if-self.false) (λ made stands. scan-next R c.self.inside.modulus c.self.inside.zeros stands.below made stands.made_is)

pub returns-in-C-clause-stands : goal.returns-in-C-clause-stands
returns-in-C-clause-stands c = rw (← c.self.view_is, c.in-C.is, c.if-self.false) (λ made stands. scan-next S c.self.inside.modulus c.self.inside.zeros stands.below made stands.made_is)
