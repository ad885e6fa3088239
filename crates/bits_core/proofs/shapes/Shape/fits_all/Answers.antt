use Rattle.bits_core.proofs.Fitting.{all_fit}
use Rattle.bits_core.proofs.shapes.Shape.fits_all.Goals as goal

pub returns : goal.returns
returns c =
    let (to, from) = all_fit c.args.self.now c.args.items.now in
    (λ yes. to (c.each_fits.ensures.0 yes), λ fit. c.each_fits.ensures.1 (from fit))
