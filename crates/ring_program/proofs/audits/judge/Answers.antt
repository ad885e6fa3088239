use Rattle.ring_audit.specs.Audit.{statement}
use Rattle.ring_program.proofs.audits.judge.Goals as goal

pub returns-in_ok-text-in-Programs-clause-judged : goal.returns-in_ok-text-in-Programs-clause-judged
returns-in_ok-text-in-Programs-clause-judged g c =
    let found = c.in_ok-finding-in-Programs.ensures in
    rw c.in-Programs.is
    (statement c.in_ok-finding-in-Programs.finding, found.found, found.sentence, found.linearizable, c.in_ok-text-in-Programs.ensures.text, c.verdict_of.ensures)
