use Rattle.std.proofs.Common.{◌<◌, length, arith}
use Rattle.register_core.specs.UnaryState.{UnaryState}
use Rattle.register_core.proofs.Stands.{stands-write}
use Rattle.register_core.proofs.unary.UnaryWriter.write.Goals as goal

pub returns-clause-stands : goal.returns-clause-stands
returns-clause-stands c =
    let w : UnaryState = record { side = c.self.inside.side; modulus = c.self.inside.modulus; bits = c.self.inside.bits; value = c.self.inside.value } in
    let below = rw (← c.self.view_is) at c.requires.below in
    let idle = rw (← c.self.view_is) at c.requires.idle in
    let fits : c.args.value < length w.bits = omega (arith, below, c.self.told, c.self.invariant.fits) in
    rw (← c.self.view_is) (stands-write w c.args.value fits idle)
