use Rattle.register_calls.proofs.FromOrders.{atomic_is_linearizable_lemma}
use Rattle.register_calls.proofs.laws.atomic_is_linearizable.Goals as goal

pub returns : goal.returns
returns c = atomic_is_linearizable_lemma
