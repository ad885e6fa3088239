use Rattle.std.proofs.Common.{◌≡◌, ◌≢◌, Some, None, subst, ap, ◌∙◌}
use Rattle.ring_audit.proofs.Common.{opening_event, P, Cell, width_of, ReaderState, due_read, UnaryState, due_unary, Choosing, the_view, PutReading}
use Rattle.bits_core.specs.declared.events.Access.TheVariants as begins
use Rattle.ring_audit.proofs.PutReads.{read_due, no_word_nor_count}
use Rattle.ring_audit.proofs.DueLemmas.{begins_by, counts_last}
use Rattle.ring_audit.proofs.puts.PutReader.word_or_count.Goals as goal

pub returns-clause-only : goal.returns-clause-only
returns-clause-only c =
    let r : PutReading = the_view c.self.inside in
    let stage : r.stage ≡ Choosing = ap (λ (z : PutReading). z.stage) c.self.view_is ∙ c.requires.at.0 in
    let none : r.open_access ≡ None = ap (λ (z : PutReading). z.open_access) c.self.view_is ∙ c.requires.at.1 in
    let word : ReaderState = record { width = width_of r.shape; cell = r.cell; read = 0; value = 0 } in
    let due : c.next-word.result ≡ Some (begins.Read (Cell r.cell 0)) = c.next-word.ensures.due ∙ ap due_read c.new.ensures.state ∙ read_due word r.shape.has_digits in
    begins_by r c.args.self.now _ c.self.view_is
    (λ es items stored a st others. no_word_nor_count r.shape r es items stored a st none stage c.self.invariant.row_side
    (λ v room is. c.writes.ensures.writes (Cell r.cell 0) v due (subst (λ z. c.writes.result.first ≢ Some (opening_event P z)) is others.0) (subst (λ z. c.writes.result.second ≢ Some (opening_event P z)) is others.1))
    (λ some count. others.2 (c.writes.ensures.other ∙ c.opening.ensures.some a (c.next.ensures.due ∙ ap due_unary c.write.ensures.state ∙ count))))

pub returns-clause-order : goal.returns-clause-order
returns-clause-order c =
    let r : PutReading = the_view c.self.inside in
    let word : ReaderState = record { width = width_of r.shape; cell = r.cell; read = 0; value = 0 } in
    let due : c.next-word.result ≡ Some (begins.Read (Cell r.cell 0)) = c.next-word.ensures.due ∙ ap due_read c.new.ensures.state ∙ read_due word r.shape.has_digits in
    let row : UnaryState = record r.row { value = r.next } in
    c.writes.ensures.order
    (λ b is. (let same : b ≡ Cell r.cell 0 = cc in (r.cell, 0, same)))
    (counts_last row c.next.result c.opening.result c.self.invariant.row_side (c.next.ensures.due ∙ ap due_unary c.write.ensures.state) c.opening.ensures.some c.opening.ensures.none)
