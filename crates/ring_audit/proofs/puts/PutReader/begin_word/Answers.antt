use Rattle.ring_audit.proofs.Common.{opening_event, P, Cell, Access, width_of, ReaderState, Stops, GoesOn, Choosing, Storing, the_view, PutReading}
use Rattle.std.proofs.Common.{◌≡◌, ◌<◌, Bool, true, false, Some, None, sym, ap, ◌∙◌, arith}
use Rattle.bits_core.specs.declared.events.Access.TheVariants as begins
use Rattle.ring_audit.proofs.PutReads.{read_at, no_word_nor_count, read_due}
use Rattle.ring_audit.proofs.PutSteps.{begins_word}
use Rattle.ring_audit.proofs.puts.PutReader.begin_word.Goals as goal
use Rattle.ring_audit.proofs.puts.PutReader.begin_word.Goals.{else-self-gt0-via-then-self-gt0+else-writes_next, else-self-gt0-via-else-self-gt0}

pub returns-then-writes_next-clause-read : goal.returns-then-writes_next-clause-read
returns-then-writes_next-clause-read c =
    let r : PutReading = the_view c.self.inside in
    let a : Access = c.args.access in
    read_at r c.args.self.now (record r { stage = Storing; word = c.new-self-inside.result; open_access = Some a }) (opening_event P a) GoesOn Choosing None c.self.view_is c.self.invariant c.requires.at.0 c.requires.at.1
    (λ stage none at es items stored st. begins_word r.shape r es items stored c.new-self-inside.result a st none stage
    (ap (λ (z : ReaderState). z.read) c.new-self-inside.ensures.state) c.new-self-inside.ensures.stands)

pub returns-else-self-clause-read : goal.returns-else-self-clause-read
returns-else-self-clause-read c =
    let r : PutReading = the_view c.self.inside in
    let a : Access = c.args.access in
    let word : ReaderState = record { width = width_of r.shape; cell = r.cell; read = 0; value = 0 } in
    let no_word : (v : Bool) → 0 < r.room → a ≡ begins.Write (Cell r.cell 0) v → ⊥ = grind (arith, read_due) in
    read_at r c.args.self.now r (opening_event P a) Stops Choosing None c.self.view_is c.self.invariant c.requires.at.0 c.requires.at.1
    (λ stage none at es items stored st of_puts. no_word_nor_count r.shape r es items stored a st none stage c.self.invariant.row_side no_word
    (λ some due. (let clash : true ≡ false = sym some ∙ c.if-self.false in absurd (cc))) of_puts)
