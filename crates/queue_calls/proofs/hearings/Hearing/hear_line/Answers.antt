use Rattle.std.proofs.Common.{◌∙◌, Some, None, refl, sym, ap, subst, arith}
use Rattle.queue_calls.specs.Hearings.{RefusesNextLine}
use Rattle.queue_calls.proofs.Common.{line, begun_after, told}
use Rattle.queue_calls.proofs.NextLines.{are_small, has_heard, heard_as, line_at_fault, line_heard, line_outgrows, tells_none}
use Rattle.queue_calls.proofs.hearings.Hearing.hear_line.Goals as goal

pub returns-in_default-clause-heard : goal.returns-in_default-clause-heard
returns-in_default-clause-heard g c is_cut before follows number =
    (refl, follows, tells_none g.S.Offered.Fifo.items g.S.Taken.Fifo.items is_cut before c.args.self.now follows c.args.word c.args.numbers.now (are_small c.args.numbers.now (λ i. omega (arith, c.type_inv.numbers i))) (c.if-not-allows.ensures.0 refl) (sym c.in_default.ensures))

pub returns-in-None-clause-heard : goal.returns-in-None-clause-heard
returns-in-None-clause-heard g c is_cut before follows number =
    line_heard g.S.Offered.Fifo.items g.S.Taken.Fifo.items is_cut before c.args.self.now follows c.args.word c.args.numbers.now (told c.in-Some.event) (are_small c.args.numbers.now (λ i. omega (arith, c.type_inv.numbers i))) (c.if-not-allows.ensures.0 refl) (sym c.in-Some.ensures) _ c.args.line number
    (c.begun_after-self.ensures ∙ ap (λ b. begun_after b c.args.word c.args.numbers.now) c.in-Ok.ensures.begun) c.in-None.is
    (heard_as g.S.Offered.Fifo.items g.S.Taken.Fifo.items c.args.self.now c.next.new.self c.args.line (told c.in-Some.event) c.next.new.self.fault None c.in-None.is (c.in-Ok.ensures.heard follows.2))

pub returns-in-Some-fault-clause-heard : goal.returns-in-Some-fault-clause-heard
returns-in-Some-fault-clause-heard g c is_cut before follows number =
    line_at_fault g.S.Offered.Fifo.items g.S.Taken.Fifo.items is_cut before c.args.self.now follows c.args.word c.args.numbers.now (told c.in-Some.event) (are_small c.args.numbers.now (λ i. omega (arith, c.type_inv.numbers i))) (c.if-not-allows.ensures.0 refl) (sym c.in-Some.ensures) _ c.in-Some-fault.fault c.args.line number
    c.in-Ok.ensures.begun refl c.next.ensures.limit
    (heard_as g.S.Offered.Fifo.items g.S.Taken.Fifo.items c.args.self.now c.next.new.self c.args.line (told c.in-Some.event) c.next.new.self.fault (Some c.in-Some-fault.fault) c.in-Some-fault.is (c.in-Ok.ensures.heard follows.2))

pub returns-in-Err-clause-heard : goal.returns-in-Err-clause-heard
returns-in-Err-clause-heard g c is_cut before follows number =
    let O = g.S.Offered.Fifo.items in
    let T = g.S.Taken.Fifo.items in
    let s = c.args.self.now in
    let o = g.S.Offered.Fifo.room s.witness.auditor.inside.list in
    let t = g.S.Taken.Fifo.room s.witness.taken in
    subst (λ e. RefusesNextLine O T s.witness.limit o t is_cut before c.args.line (line c.args.word c.args.numbers.now) e c.next.new.self) (sym c.in-Err.ensures.refused)
    (line_outgrows O T is_cut before s follows c.args.word c.args.numbers.now (told c.in-Some.event) (are_small c.args.numbers.now (λ i. omega (arith, c.type_inv.numbers i))) (c.if-not-allows.ensures.0 refl) (sym c.in-Some.ensures) s.witness.limit o t (c.in-Err.ensures.full _ _ (has_heard O T is_cut before s follows)))
