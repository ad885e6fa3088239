use Rattle.std.proofs.Common.{rules}
use Rattle.register_calls.proofs.Foretelling.{has_with_as}
use Rattle.register_calls.proofs.auditors.RegisterAuditor.has_with.Goals as goal

pub returns-in-Safe : goal.returns-in-Safe
returns-in-Safe g c = search (rules, has_with_as)

pub returns-in-Regular : goal.returns-in-Regular
returns-in-Regular g c = search (rules, has_with_as)

pub returns-in-AtomicByReader : goal.returns-in-AtomicByReader
returns-in-AtomicByReader g c = search (rules, has_with_as)

pub returns-in-Atomic : goal.returns-in-Atomic
returns-in-Atomic g c = search (rules, has_with_as)
