use Rattle.std.proofs.Common.{◌≡◌, ◌≢◌, true, false, Some, refl, ap, ◌∙◌}
use Rattle.ring_audit.proofs.Common.{P, opening_event, Dues}
use Rattle.bits_core.specs.declared.events.Access.TheVariants as begins
use Rattle.ring_audit.proofs.DueLemmas.{digits_in_order}
use Rattle.ring_audit.proofs.choices.writes.Goals as goal

pub returns-in-Read-clause-writes : goal.returns-in-Read-clause-writes
returns-in-Read-clause-writes c b v is no_false no_true =
    let same : c.in-Read.bit ≡ b = cc in
    elim v as (λ w. c.opening.result ≢ Some (opening_event P (begins.Write b w)) → c.opening-in-Read.result ≢ Some (opening_event P (begins.Write b w)) → ⊥) [
      | false ↦ λ one other. one (c.opening.ensures.some (begins.Write b false) (ap (λ z. Some (begins.Write z false)) same))
      | true ↦ λ one other. other (c.opening-in-Read.ensures.some (begins.Write b true) (ap (λ z. Some (begins.Write z true)) same))
    ] no_false no_true

pub returns-in-Read-clause-order : goal.returns-in-Read-clause-order
returns-in-Read-clause-order c cells counts =
    let b = c.in-Read.bit in
    let cell = cells b (c.in-Some.is ∙ ap Some c.in-Read.is) in
    let dues : Dues = record { first = c.opening.result; second = c.opening-in-Read.result; third = c.args.other } in
    digits_in_order b cell.0 cell.1 dues cell.2 (c.opening.ensures.some (begins.Write b false) refl) (c.opening-in-Read.ensures.some (begins.Write b true) refl) counts
