use Rattle.std.proofs.Common.{◌<◌, ◌^◌, refl, sym, subst}
use Rattle.bits_core.specs.declared.shapes.Shape.{Shape}
use Rattle.bits_core.specs.Shape.{width_of}
use Rattle.uses.proofs.Driving.{begun}
use Rattle.uses.proofs.by_hand.put_by_hand.Goals as goal

pub put-requires-clause-fits : goal.put-requires-clause-fits
put-requires-clause-fits g c = subst (λ (s : Shape). c.args.item < 2 ^ width_of s) (sym c.requires.driven.shape_is) c.requires.fits

pub events-init : goal.events-init
events-init g c = (begun c.args.memory.now c.args.producer.now c.requires.driven c.put.new.self c.requires.idle c.put.ensures.shape c.put.ensures.stands, c.put.ensures.kind, refl)
