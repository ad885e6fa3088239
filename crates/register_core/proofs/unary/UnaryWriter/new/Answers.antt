use Rattle.register_core.proofs.Stands.{stands-new}
use Rattle.register_core.proofs.unary.UnaryWriter.new.Goals as goal

pub returns-clause-stands : goal.returns-clause-stands
returns-clause-stands c = stands-new c.args.side c.modulus.result
