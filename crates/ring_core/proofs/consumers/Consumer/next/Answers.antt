use Rattle.std.proofs.Common.{◌+◌, Some, refl, sym, ap, ◌∙◌}
use Rattle.ring_core.proofs.Common.{C, X, ConsumerState, consumer_due_at}
use Rattle.bits_core.specs.declared.events.Access.TheVariants.{Read}
use Rattle.ring_core.specs.declared.consumers.Stage.TheVariants.{Checking, Loading, Counting}
use Rattle.ring_core.specs.contracts.consumers.Consumer.{the_view}
use Rattle.ring_core.proofs.Machines.ConsumerInvariant.{at_stage}
use Rattle.ring_core.proofs.Machines.NextParts.{scan_right, row_right, row_below}
use Rattle.ring_core.proofs.Machines.ConsumerNext.{next_check, next_word, next_count_write, word_right, told_next}
use Rattle.ring_core.proofs.TakeScans.{scans_there, taking_there, due_there, next_there}
use Rattle.ring_core.proofs.consumers.Consumer.next.Goals as goal

pub returns-in-Scanning : goal.returns-in-Scanning
returns-in-Scanning c =
    let p : ConsumerState = the_view c.self.inside in
    let at = c.in-Scanning.is in
    let due = c.next.ensures.due in
    rw (← c.self.view_is)
    (told_next p c.next.result (due ∙ sym (due_there p at)) (scan_right p.shape C p.scan c.next.result (scans_there p at c.self.invariant.0) due) (taking_there p at c.self.invariant.0)
    (λ calls made stands. next_there p calls made c.next.result at c.self.invariant.0 stands due))

pub returns-in-Checking : goal.returns-in-Checking
returns-in-Checking c =
    let p : ConsumerState = the_view c.self.inside in
    let (counted, taking, fresh) = at_stage p Checking c.self.invariant.0 c.in-Checking.is in
    rw (← c.self.view_is)
    (told_next p (Some (Read X)) (sym (ap (λ st. consumer_due_at st p) c.in-Checking.is)) (refl, refl) taking (λ calls made stands. next_check p calls made c.in-Checking.is stands taking))

pub returns-in-Loading : goal.returns-in-Loading
returns-in-Loading c =
    let p : ConsumerState = the_view c.self.inside in
    let (counted, taking, loads, less, few, unread) = at_stage p Loading c.self.invariant.0 c.in-Loading.is in
    let due = c.next-in-Loading.ensures.due in
    rw (← c.self.view_is)
    (told_next p c.next-in-Loading.result (due ∙ sym (ap (λ st. consumer_due_at st p) c.in-Loading.is)) (word_right p c.next-in-Loading.result loads unread due) taking
    (λ calls made stands. next_word p calls made c.next-in-Loading.result c.in-Loading.is stands taking loads less few unread due c.next-in-Loading.ensures.stands))

pub returns-in-Counting : goal.returns-in-Counting
returns-in-Counting c =
    let p : ConsumerState = the_view c.self.inside in
    let (being, taking, least, size, few) = at_stage p Counting c.self.invariant.0 c.in-Counting.is in
    let due = c.next-in-Counting.ensures.due in
    rw (← c.self.view_is)
    (told_next p c.next-in-Counting.result (due ∙ sym (ap (λ st. consumer_due_at st p) c.in-Counting.is))
    (row_right p.shape C p.row c.next-in-Counting.result c.self.invariant.0.row_side (row_below p.shape p.row (p.count + p.most) being.1) due) taking
    (λ calls made stands. next_count_write p calls made c.next-in-Counting.result c.in-Counting.is stands taking least size few c.self.invariant.0.row_side being.0 due
    c.next-in-Counting.ensures.stands))
