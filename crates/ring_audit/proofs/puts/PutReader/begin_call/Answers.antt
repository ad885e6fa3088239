use Rattle.ring_audit.proofs.Common.{opening_event, P, Access, row_read_by, due_scan, Stops, Resting, the_view, PutReading}
use Rattle.std.proofs.Common.{◌≡◌, true, false, Some, None, sym, ap, ◌∙◌}
use Rattle.bits_core.specs.declared.events.Access.TheVariants as begins
use Rattle.ring_audit.proofs.PutReads.{read_at, no_call}
use Rattle.ring_audit.proofs.puts.PutReader.begin_call.Goals as goal

pub returns-else-is_same-2-clause-read : goal.returns-else-is_same-2-clause-read
returns-else-is_same-2-clause-read c =
    let r : PutReading = the_view c.self.inside in
    let a : Access = c.args.access in
    let due : c.next.result ≡ Some (begins.Read (row_read_by P 0)) = c.next.ensures.due ∙ ap due_scan c.new-self-inside.ensures.state in
    read_at r c.args.self.now (record r { scan = c.new-self-inside.result }) (opening_event P a) Stops Resting None c.self.view_is c.self.invariant c.requires.at.0 c.requires.at.1
    (λ stage none at es items stored st of_puts. no_call r.shape r es items stored a st none stage
    (λ same. (let clash : true ≡ false = sym (c.is_same.ensures.1 (ap Some same)) ∙ c.if-is_same.false in absurd (cc)))
    (λ same. (let clash : true ≡ false = sym (c.is_same-else-is_same.ensures.1 (due ∙ ap Some same)) ∙ c.if-is_same-2.false in absurd (cc))) of_puts)
