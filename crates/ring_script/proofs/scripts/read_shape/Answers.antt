use Rattle.ring_script.proofs.ShapeLemmas.{shape_accepted, shape_refused}
use Rattle.ring_script.proofs.scripts.read_shape.Goals as goal

pub returns-in-Ok-clause-accepted : goal.returns-in-Ok-clause-accepted
returns-in-Ok-clause-accepted c = shape_accepted _ _ _ _ _ _ c.in-Ok.ensures

pub returns-in-Err-clause-refused : goal.returns-in-Err-clause-refused
returns-in-Err-clause-refused c = shape_refused _ _ _ _ _ _ c.in-Err.ensures
