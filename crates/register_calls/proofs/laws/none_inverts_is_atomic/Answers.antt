use Rattle.register_calls.proofs.Inverting.{none_inverts}
use Rattle.register_calls.proofs.laws.none_inverts_is_atomic.Goals as goal

pub returns : goal.returns
returns c = none_inverts
