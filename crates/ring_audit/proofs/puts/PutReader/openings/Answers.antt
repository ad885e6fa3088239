use Rattle.std.proofs.Common.{◌≡◌, ◌≢◌, ◌<◌, true, Some, None, refl, subst, sym, ap, ◌∙◌, lit<}
use Rattle.ring_audit.proofs.Common.{opening_event, P, R, X, Cell, modulus_of, width_of, row_read_by, Dues, the_view, PutReading, IsReaderAt, scan_due}
use Rattle.bits_core.specs.declared.events.Access.TheVariants as begins
use Rattle.ring_audit.specs.declared.puts.Stage.TheVariants.{Scanning, Storing, Counting}
use Rattle.ring_audit.proofs.PutReads.{at_stage, read_due, no_call, no_read, no_digit, no_bit, no_more}
use Rattle.ring_audit.proofs.DueLemmas.{begins_by, two_in_order}
use Rattle.ring_audit.proofs.puts.PutReader.openings.Goals as goal

pub returns-in-Resting-clause-only : goal.returns-in-Resting-clause-only
returns-in-Resting-clause-only c =
    let r : PutReading = the_view c.self.inside in
    let none : r.open_access ≡ None = ap (λ (z : PutReading). z.open_access) c.self.view_is ∙ c.requires in
    begins_by r c.args.self.now _ c.self.view_is
    (λ es items stored a st others. no_call r.shape r es items stored a st none c.in-Resting.is (λ same. others.1 (c.opening-in-Resting.ensures.some a (ap Some same)))
    (λ same. others.0 (c.opening.ensures.some a (ap Some same))))

pub returns-in-Resting-clause-order : goal.returns-in-Resting-clause-order
returns-in-Resting-clause-order c =
    let dues : Dues = record { first = c.opening.result; second = c.opening-in-Resting.result; third = None } in
    two_in_order (opening_event P (begins.Read (R 0))) (opening_event P (begins.Write X true)) dues (c.opening.ensures.some (begins.Read (R 0)) refl)
    (c.opening-in-Resting.ensures.some (begins.Write X true) refl) refl (lit< tt)

pub returns-in-Scanning-clause-only : goal.returns-in-Scanning-clause-only
returns-in-Scanning-clause-only c =
    let r : PutReading = the_view c.self.inside in
    let none : r.open_access ≡ None = ap (λ (z : PutReading). z.open_access) c.self.view_is ∙ c.requires in
    let at : IsReaderAt Scanning r = at_stage r Scanning c.self.invariant c.in-Scanning.is in
    let due : c.next.result ≡ Some (begins.Read (row_read_by P r.scan.zeros)) = c.next.ensures.due ∙ scan_due P (modulus_of r.shape) r.scan at.1 in
    begins_by r c.args.self.now _ c.self.view_is
    (λ es items stored a st others. no_read r.shape r es items stored a st none c.in-Scanning.is (at.2 none)
    (λ same. others.2 (c.only.ensures.third ∙ c.opening-in-Scanning.ensures.some a (due ∙ ap Some same))))

pub returns-in-Storing-clause-only : goal.returns-in-Storing-clause-only
returns-in-Storing-clause-only c =
    let r : PutReading = the_view c.self.inside in
    let none : r.open_access ≡ None = ap (λ (z : PutReading). z.open_access) c.self.view_is ∙ c.requires in
    let at : IsReaderAt Storing r = at_stage r Storing c.self.invariant c.in-Storing.is in
    let below : r.word.read < width_of r.shape = subst (λ w. r.word.read < w) at.1 at.3 in
    let due : c.next-in-Storing.result ≡ Some (begins.Read (Cell r.word.cell r.word.read)) = c.next-in-Storing.ensures.due ∙ read_due r.word at.3 in
    begins_by r c.args.self.now _ c.self.view_is
    (λ es items stored a st others. no_digit r.shape r es items stored a st none c.in-Storing.is below (at.5 none)
    (λ v same.
    (let is : a ≡ begins.Write (Cell r.word.cell r.word.read) v = same ∙ ap (λ j. begins.Write (Cell j r.word.read) v) (sym at.2) in
    c.writes.ensures.writes (Cell r.word.cell r.word.read) v due (subst (λ z. c.writes.result.first ≢ Some (opening_event P z)) is others.0) (subst (λ z. c.writes.result.second ≢ Some (opening_event P z)) is others.1))))

pub returns-in-Counting-clause-only : goal.returns-in-Counting-clause-only
returns-in-Counting-clause-only c =
    let r : PutReading = the_view c.self.inside in
    let none : r.open_access ≡ None = ap (λ (z : PutReading). z.open_access) c.self.view_is ∙ c.requires in
    let at : IsReaderAt Counting r = at_stage r Counting c.self.invariant c.in-Counting.is in
    begins_by r c.args.self.now _ c.self.view_is
    (λ es items stored a st others. no_bit r.shape r es items stored a st none c.in-Counting.is c.self.invariant.row_side at.0
    (λ due. others.2 (c.only-in-Counting.ensures.third ∙ c.opening-in-Counting.ensures.some a (c.next-in-Counting.ensures.due ∙ due))))

pub returns-in-Closed-clause-only : goal.returns-in-Closed-clause-only
returns-in-Closed-clause-only c =
    let r : PutReading = the_view c.self.inside in
    let none : r.open_access ≡ None = ap (λ (z : PutReading). z.open_access) c.self.view_is ∙ c.requires in
    begins_by r c.args.self.now _ c.self.view_is (λ es items stored a st others. no_more r.shape r es items stored a st none c.in-Closed.is)
