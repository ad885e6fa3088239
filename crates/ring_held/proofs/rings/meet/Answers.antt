use Rattle.ring_core.proofs.LawLemmas.{ring_is_linearizable}
use Rattle.ring_held.proofs.rings.meet.Goals as goal

pub returns-clause-linearizable : goal.returns-clause-linearizable
returns-clause-linearizable g c = ring_is_linearizable _ _
