use Rattle.ring_audit.proofs.Findings.{one_finding as the_law}
use Rattle.ring_audit.proofs.laws.one_finding.Goals as goal

pub returns : goal.returns
returns c = the_law
