use Rattle.std.proofs.Common.{◌≡◌, ◌<◌, length, true, ◌∙◌, ap, reverse, arith}
use Rattle.queue_calls.proofs.Common.{at, coming, ShortAfterClose, ShortWhileInside}
use Rattle.queue_calls.proofs.Agreeing.{both}
use Rattle.queue_calls.proofs.CauseFound.{wants_so_many}
use Rattle.queue_calls.proofs.CauseTold.{short_early, short_inside, short_late, take_ends}
use Rattle.queue_calls.proofs.Remembering.{agrees_of, ended_is, kept_of, not_told}
use Rattle.queue_calls.proofs.witnesses.Witness.take_short_cause.Goals as goal
use Rattle.queue_calls.proofs.witnesses.Witness.take_short_cause.Goals.{else-ended-via-then-ended+else-len-eq0, else-ended-via-else-ended}

pub returns-then-wanted-before : goal.returns-then-wanted-before
returns-then-wanted-before g c capacity events cause r n turn wants e =
    ap ShortWhileInside (c.at.ensures ∙ ap (λ z. at z c.saturating_sub.result) r.inside ∙ ap (λ z. at (coming (reverse events)) z) c.saturating_sub.ensures) ∙
    short_inside capacity (agrees_of r) c.in-Waits.is (not_told r c.in_default.not-Some) (omega (arith, wants, wants_so_many turn c.in-Waits.is)) c.if-wanted-before.true e

pub returns-then-len-eq0 : goal.returns-then-len-eq0
returns-then-len-eq0 g c capacity events cause r n turn wants e =
    ap ShortAfterClose (c.ended_line.ensures ∙ ended_is r (take_ends capacity (agrees_of r) c.in-Waits.is (not_told r c.in_default.not-Some) c.if-ended.true)) ∙
    short_late capacity (agrees_of r) c.in-Waits.is (not_told r c.in_default.not-Some) (omega (arith, wants, wants_so_many turn c.in-Waits.is)) c.if-wanted-before.false c.if-ended.true (omega (arith, c.if-len-eq0.true, c.len.ensures.items)) e

pub returns : goal.returns
returns g c capacity events cause r n turn wants e =
    let k = kept_of g.S.Offered.Fifo.items c.args.self.now in
    let inside : c.in-Waits.ended ≡ true → 0 < length k.inside =
    λ f. elim c.else-ended.branch [
      | else-ended-via-then-ended+else-len-eq0 w ↦ omega (arith, w.if-len-eq0.false, w.len.ensures.items)
      | else-ended-via-else-ended w ↦ both (0 < length k.inside) c.in-Waits.ended f w.if-ended.false
    ] in
    c.not_taken_cause-2.ensures capacity events cause r (short_early capacity (agrees_of r) c.in-Waits.is (not_told r c.in_default.not-Some) (omega (arith, wants, wants_so_many turn c.in-Waits.is)) c.if-wanted-before.false inside e)
