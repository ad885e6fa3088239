use Rattle.std.proofs.Common.{sym, subst}
use Rattle.ring_seats.proofs.Common.{Access, CanMake, HasMade}
use Rattle.ring_seats.proofs.steppers.Stepper+Flickering.make.Goals as goal

pub read-requires-clause-can : goal.read-requires-clause-can
read-requires-clause-can g c = subst (λ (a : Access). CanMake c.args.self.now a) c.in-Read.is c.requires.can

pub write-requires-clause-can : goal.write-requires-clause-can
write-requires-clause-can g c = subst (λ (a : Access). CanMake c.args.self.now a) c.in-Write.is c.requires.can

pub returns-in-Read-clause-made : goal.returns-in-Read-clause-made
returns-in-Read-clause-made g c = subst (λ (a : Access). HasMade c.args.self.now c.read.new.self a c.read.result) (sym c.in-Read.is) c.read.ensures.made

pub returns-in-Write-clause-made : goal.returns-in-Write-clause-made
returns-in-Write-clause-made g c = subst (λ (a : Access). HasMade c.args.self.now c.write.new.self a c.in-Write.value) (sym c.in-Write.is) c.write.ensures.made
