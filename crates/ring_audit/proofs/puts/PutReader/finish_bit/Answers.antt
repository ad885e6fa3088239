use Rattle.std.proofs.Common.{◌≡◌, Some, None, sym, ◌∙◌}
use Rattle.ring_audit.proofs.Common.{P, Access, answered, end_event, due_unary, GoesOn, the_view, PutReading}
use Rattle.ring_audit.specs.declared.puts.Stage.TheVariants.{Resting, Counting}
use Rattle.ring_audit.proofs.PutReads.{read_at, no_due}
use Rattle.ring_audit.proofs.PutItems.{ends_bit, ends_count}
use Rattle.ring_audit.proofs.puts.PutReader.finish_bit.Goals as goal

pub returns-then-is_none-clause-read : goal.returns-then-is_none-clause-read
returns-then-is_none-clause-read c =
    let r : PutReading = the_view c.self.inside in
    let a : Access = c.args.access in
    let over : due_unary c.feed.new.self ≡ None = sym c.next.ensures.due ∙ no_due c.next.result c.is_none.result c.is_none.ensures c.if-is_none.true in
    read_at r c.args.self.now (record r { row = c.feed.new.self; count = r.next; stage = Resting; open_access = None }) (end_event P (answered a c.args.answer)) GoesOn Counting (Some a) c.self.view_is c.self.invariant c.requires.at.0 c.requires.at.1
    (λ stage some at es items stored st. ends_count r.shape r es items stored c.feed.new.self a c.args.answer st some stage c.self.invariant.row_side (at.1 a some) c.feed.ensures.left c.feed.ensures.stands over)

pub returns-else-is_none-clause-read : goal.returns-else-is_none-clause-read
returns-else-is_none-clause-read c =
    let r : PutReading = the_view c.self.inside in
    let a : Access = c.args.access in
    read_at r c.args.self.now (record r { row = c.feed.new.self; open_access = None }) (end_event P (answered a c.args.answer)) GoesOn Counting (Some a) c.self.view_is c.self.invariant c.requires.at.0 c.requires.at.1
    (λ stage some at es items stored st. ends_bit r.shape r es items stored c.feed.new.self a c.args.answer st some stage c.self.invariant.row_side (at.1 a some) c.feed.ensures.left c.feed.ensures.stands)
