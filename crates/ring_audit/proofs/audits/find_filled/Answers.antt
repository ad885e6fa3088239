use Rattle.ring_audit.specs.Audit.{statement_in}
use Rattle.ring_audit.proofs.Breaks.{exact_finding}
use Rattle.ring_audit.proofs.Rooms.{in_slots}
use Rattle.ring_audit.proofs.Sentences.{says_sentence}
use Rattle.ring_core.proofs.LawLemmas.{closed_stays, ring_law}
use Rattle.ring_audit.proofs.audits.find_filled.Goals as goal

pub returns-clause-exact : goal.returns-clause-exact
returns-clause-exact c =
    let put = c.find_in.new.put in
    let taken = c.find_in.new.taken in
    let found = c.in_ok-found.found in
    exact_finding c.args.shape.now c.args.events.now (statement_in put.slots.now taken.slots.now found)
    (in_slots c.args.shape.now c.args.events.now put.slots.now taken.slots.now put.used taken.used found put.within taken.within c.in_ok-found.ensures.within c.in_ok-found.ensures.found)

pub returns-clause-sentence : goal.returns-clause-sentence
returns-clause-sentence c =
    let put = c.find_in.new.put in
    let taken = c.find_in.new.taken in
    let found = c.in_ok-found.found in
    says_sentence ring_law closed_stays c.args.shape.now c.args.events.now (statement_in put.slots.now taken.slots.now found)
    (in_slots c.args.shape.now c.args.events.now put.slots.now taken.slots.now put.used taken.used found put.within taken.within c.in_ok-found.ensures.within c.in_ok-found.ensures.found)
