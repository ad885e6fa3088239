use Rattle.ring_audit.proofs.Common.{opening_event, P, Cell, Access, due_unary, the_view, PutReading}
use Rattle.std.proofs.Common.{◌≡◌, ◌<◌, Bool, true, false, Some, None, subst, sym, ap, ◌∙◌}
use Rattle.bits_core.specs.declared.events.Access.TheVariants as begins
use Rattle.ring_audit.specs.declared.puts.PutStep.TheVariants.{Stops, Counts}
use Rattle.ring_audit.specs.declared.puts.Stage.TheVariants.{Choosing, Counting, Closed}
use Rattle.ring_audit.proofs.PutReads.{read_at, no_word_nor_count}
use Rattle.ring_audit.proofs.PutSteps.{begins_count}
use Rattle.ring_audit.proofs.puts.PutReader.begin_count.Goals as goal

pub returns-then-is_same-clause-read : goal.returns-then-is_same-clause-read
returns-then-is_same-clause-read c =
    let r : PutReading = the_view c.self.inside in
    let a : Access = c.args.access in
    read_at r c.args.self.now (record r { stage = Counting; row = c.write.new.self; open_access = Some a }) (opening_event P a) Counts Choosing None c.self.view_is c.self.invariant c.requires.at.0 c.requires.at.1
    (λ stage none at es items stored st. begins_count r.shape r es items stored c.write.new.self a st none stage (ap (λ (z : PutReading). z.some) c.self.view_is ∙ c.requires.some)
    c.self.invariant.row_side c.write.ensures.state c.write.ensures.stands)

pub returns-else-is_same-clause-read : goal.returns-else-is_same-clause-read
returns-else-is_same-clause-read c =
    let r : PutReading = the_view c.self.inside in
    let a : Access = c.args.access in
    read_at r c.args.self.now (record r { stage = Closed; row = c.write.new.self }) (opening_event P a) Stops Choosing None c.self.view_is c.self.invariant c.requires.at.0 c.requires.at.1
    (λ stage none at es items stored st of_puts. no_word_nor_count r.shape r es items stored a st none stage c.self.invariant.row_side
    (subst (λ (z : PutReading). (v : Bool) → 0 < z.room → a ≡ begins.Write (Cell z.cell 0) v → ⊥) (sym c.self.view_is) c.requires.no_word)
    (λ some due. (let clash : true ≡ false = sym (c.is_same.ensures.1 (c.next.ensures.due ∙ ap due_unary c.write.ensures.state ∙ due)) ∙ c.if-is_same.false in absurd (cc))) of_puts)
