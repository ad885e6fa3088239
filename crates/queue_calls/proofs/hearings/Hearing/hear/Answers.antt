use Rattle.std.proofs.Common.{◌∙◌, sym}
use Rattle.queue_calls.proofs.Common.{told, then_err, then_ok}
use Rattle.queue_calls.proofs.HearingLemmas.{fault_stays, no_fault}
use Rattle.queue_calls.proofs.NextLines.{fault_next, no_fault_is}
use Rattle.queue_calls.proofs.hearings.Hearing.hear.Goals as goal

pub returns-then-is_some-clause-heard : goal.returns-then-is_some-clause-heard
returns-then-is_some-clause-heard g c capacity events heard number =
    let s = c.args.self.now in
    fault_stays g.S.Offered.Fifo.items g.S.Taken.Fifo.items capacity events s.fault s.witness s.tally (told c.args.event) (sym c.is_some.ensures ∙ c.if-is_some.true) heard

pub returns-clause-heard : goal.returns-clause-heard
returns-clause-heard g c =
    let O = g.S.Offered.Fifo.items in
    let T = g.S.Taken.Fifo.items in
    let s = c.args.self.now in
    let n = c.next.new.self in
    let none = sym c.is_some.ensures ∙ c.if-is_some.false in
    then_ok c.next.result c.next.ensures.heard (λ hears capacity events heard number.
    fault_next O T s n c.args.line (told c.args.event) capacity events n.fault (hears (no_fault_is s.fault none)) (no_fault O T capacity events s.fault s.witness s.tally none heard) number)

pub returns-clause-full : goal.returns-clause-full
returns-clause-full g c =
    let s = c.args.self.now in
    let none = sym c.is_some.ensures ∙ c.if-is_some.false in
    then_err c.next.result c.next.ensures.full (λ e needs capacity events heard.
    needs capacity events (no_fault g.S.Offered.Fifo.items g.S.Taken.Fifo.items capacity events s.fault s.witness s.tally none heard))
