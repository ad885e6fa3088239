use Rattle.std.proofs.lemmas.List.{get_or-replicate}
use Rattle.ring_page.specs.Audit.{nothing}
use Rattle.ring_page.proofs.audits.nothing_seen.Goals as goal

pub returns-clause-nothing : goal.returns-clause-nothing
returns-clause-nothing c place below = get_or-replicate 10000 place nothing nothing below
