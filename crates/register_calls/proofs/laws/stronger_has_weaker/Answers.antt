use Rattle.register_calls.proofs.ClassLemmas.{stronger}
use Rattle.register_calls.proofs.laws.stronger_has_weaker.Goals as goal

pub returns : goal.returns
returns c = stronger
