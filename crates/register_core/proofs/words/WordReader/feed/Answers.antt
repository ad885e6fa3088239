use Rattle.std.proofs.Common.{rules}
use Rattle.register_core.proofs.WordMachines.{reader-fed}
use Rattle.register_core.proofs.words.WordReader.feed.Goals as goal

pub returns-clause-state : goal.returns-clause-state
returns-clause-state c = search rules

pub returns-clause-stands : goal.returns-clause-stands
returns-clause-stands c = reader-fed c.args.self.now _ c.args.answer (returns-clause-state c)
