use Rattle.ring_audit.specs.Audit.{statement}
use Rattle.ring_audit.proofs.Breaks.{exact_finding}
use Rattle.ring_audit.proofs.Sentences.{says_linearizable, says_sentence}
use Rattle.ring_core.proofs.LawLemmas.{closed_stays, ring_is_linearizable, ring_law}
use Rattle.ring_audit.proofs.audits.audit.Goals as goal

pub returns-clause-exact : goal.returns-clause-exact
returns-clause-exact g c = exact_finding c.args.shape.now c.args.events.now (statement c.in_ok-found.found) c.in_ok-found.ensures

pub returns-clause-sentence : goal.returns-clause-sentence
returns-clause-sentence g c =
    says_sentence ring_law closed_stays c.args.shape.now c.args.events.now (statement c.in_ok-found.found) c.in_ok-found.ensures

pub returns-clause-linearizable : goal.returns-clause-linearizable
returns-clause-linearizable g c = says_linearizable ring_is_linearizable c.args.shape.now c.args.events.now (statement c.in_ok-found.found)
