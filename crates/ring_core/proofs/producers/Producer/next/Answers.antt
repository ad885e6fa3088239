use Rattle.std.proofs.Common.{rules, ◌+◌, sym, ap, ◌∙◌}
use Rattle.ring_core.proofs.Common.{P, ProducerState, producer_due_at}
use Rattle.ring_core.specs.declared.producers.Stage.TheVariants.{Scanning, Storing, Counting}
use Rattle.ring_core.specs.contracts.producers.Producer.{the_view}
use Rattle.ring_core.proofs.Machines.ProducerInvariant.{at_stage}
use Rattle.ring_core.proofs.Machines.NextParts.{scan_right, row_right, row_below}
use Rattle.ring_core.proofs.Machines.ProducerNext.{next_scan, next_word, next_count_write, word_right, told_next}
use Rattle.ring_core.proofs.producers.Producer.next.Goals as goal

pub returns-in-Scanning : goal.returns-in-Scanning
returns-in-Scanning c =
    let p : ProducerState = the_view c.self.inside in
    let (counted, putting, fresh, start, scans) = at_stage p Scanning c.self.invariant.0 c.in-Scanning.is in
    let due = c.next.ensures.due in
    rw (← c.self.view_is)
    (told_next p c.next.result (due ∙ sym (ap (λ st. producer_due_at st p) c.in-Scanning.is)) (scan_right p.shape P p.scan c.next.result scans due)
    (λ calls made stands. next_scan p calls made c.next.result c.in-Scanning.is stands putting.offers scans due))

pub returns-in-Storing : goal.returns-in-Storing
returns-in-Storing c =
    let p : ProducerState = the_view c.self.inside in
    let (counted, putting, keeping, more) = at_stage p Storing c.self.invariant.0 c.in-Storing.is in
    let due = c.next-in-Storing.ensures.due in
    rw (← c.self.view_is)
    (told_next p c.next-in-Storing.result (due ∙ sym (ap (λ st. producer_due_at st p) c.in-Storing.is)) (word_right p c.next-in-Storing.result putting.writes more due)
    (λ calls made stands. next_word p calls made c.next-in-Storing.result c.in-Storing.is stands putting.offers putting.writes keeping more due c.next-in-Storing.ensures.stands))

pub returns-in-Counting : goal.returns-in-Counting
returns-in-Counting c =
    let p : ProducerState = the_view c.self.inside in
    let (being, putting, keeping) = at_stage p Counting c.self.invariant.0 c.in-Counting.is in
    let due = c.next-in-Counting.ensures.due in
    rw (← c.self.view_is)
    (told_next p c.next-in-Counting.result (due ∙ sym (ap (λ st. producer_due_at st p) c.in-Counting.is))
    (row_right p.shape P p.row c.next-in-Counting.result c.self.invariant.0.row_side (row_below p.shape p.row (p.count + p.most) being.1) due)
    (λ calls made stands. next_count_write p calls made c.next-in-Counting.result c.in-Counting.is stands putting.offers keeping c.self.invariant.0.row_side being.0 due
    c.next-in-Counting.ensures.stands))

-- is here so that an edit that must be refused is refused here, before any longer search
pub returns-in-Closing-clause-due : goal.returns-in-Closing-clause-due
returns-in-Closing-clause-due c = search rules
