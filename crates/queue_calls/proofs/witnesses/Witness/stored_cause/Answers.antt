use Rattle.std.proofs.Common.{◌≡◌, ◌≤◌, ◌∙◌, ap, sym, subst, arith, true, false}
use Rattle.queue_calls.proofs.Common.{MayHold, OnlySomeStored, OnlySomeWithRoom, StoredAfterClose}
use Rattle.queue_calls.proofs.CauseFound.{offers_so_many}
use Rattle.queue_calls.proofs.CauseTold.{late_stored, stored_gone, stored_over, stored_room}
use Rattle.queue_calls.proofs.Remembering.{agrees_of, was_late}
use Rattle.queue_calls.proofs.witnesses.Witness.stored_cause.Goals as goal

pub returns-in_default : goal.returns-in_default
returns-in_default g c capacity events cause r n turn few e =
    let (is, line) = was_late r turn c.in_default.not-Offers in
    ap StoredAfterClose (c.ended_line.ensures ∙ line) ∙ late_stored capacity (agrees_of r) c.args.count c.args.why is e

pub returns-then-inside-rest : goal.returns-then-inside-rest
returns-then-inside-rest g c capacity events cause r n turn few e =
    let most : c.args.count ≤ c.in-Offers.offered = omega (arith, few, offers_so_many turn c.in-Offers.is) in
    ap (λ z. OnlySomeStored c.args.count z) r.taken_last ∙
    stored_gone capacity (agrees_of r) c.in-Offers.is c.args.count c.args.why most (omega (arith, c.if-inside-rest.true, c.len-inside.ensures.items, c.saturating_sub-rest.ensures)) e

pub returns-then-not-may_hold : goal.returns-then-not-may_hold
returns-then-not-may_hold g c capacity events cause r n turn few e =
    let most : c.args.count ≤ c.in-Offers.offered = omega (arith, few, offers_so_many turn c.in-Offers.is) in
    stored_over capacity (agrees_of r) c.in-Offers.is c.args.count c.args.why most c.saturating_sub-rest.result c.saturating_sub-least.result
    (omega (arith, c.saturating_sub-rest.ensures)) (omega (arith, c.if-inside-rest.false, c.len-inside.ensures.items)) (omega (arith, c.saturating_sub-least.ensures, c.len-inside.ensures.items, c.asked.ensures))
    (λ h. let held : false ≡ true = sym c.if-not-may_hold.true ∙ c.may_hold.ensures.1 (subst (λ z. MayHold z c.saturating_sub-least.result) (sym r.capacity_is) h) in cc) e

pub returns : goal.returns
returns g c capacity events cause r n turn few e =
    let most : c.args.count ≤ c.in-Offers.offered = omega (arith, few, offers_so_many turn c.in-Offers.is) in
    ap (λ z. OnlySomeWithRoom c.args.count c.in-Offers.before z) r.put_at ∙
    stored_room capacity (agrees_of r) c.in-Offers.is c.args.count c.args.why most c.saturating_sub-rest.result c.saturating_sub-least.result
    (omega (arith, c.saturating_sub-rest.ensures)) (omega (arith, c.if-inside-rest.false, c.len-inside.ensures.items)) (omega (arith, c.saturating_sub-least.ensures, c.len-inside.ensures.items, c.asked.ensures))
    (subst (λ z. MayHold z c.saturating_sub-least.result) r.capacity_is (c.may_hold.ensures.0 c.if-not-may_hold.false)) e
