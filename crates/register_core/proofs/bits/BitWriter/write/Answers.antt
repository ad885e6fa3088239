use Rattle.register_core.proofs.BitMachine.{writer-asks}
use Rattle.register_core.proofs.bits.BitWriter.write.Goals as goal

pub returns-clause-stands : goal.returns-clause-stands
returns-clause-stands c = rw (← c.self.view_is) (writer-asks (record { bit = c.self.inside.bit; held = c.self.inside.held; wanted = c.self.inside.wanted }) c.args.value (rw (← c.self.view_is) at c.requires))
