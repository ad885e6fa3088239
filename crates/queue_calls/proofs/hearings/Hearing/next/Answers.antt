use Rattle.std.proofs.Common.{None, ◌∷◌, ◌++◌, [], sym, subst}
use Rattle.queue_calls.proofs.Common.{OutgrowsLists, RefusesNext, told, IsToldOf}
use Rattle.queue_calls.proofs.HearingLemmas.{heard_linear, heard_more, stops_here}
use Rattle.queue_calls.proofs.NextLines.{heard_as}
use Rattle.queue_calls.proofs.hearings.Hearing.next.Goals as goal

pub returns-in-Err-OutOfTurn-clause-heard : goal.returns-in-Err-OutOfTurn-clause-heard
returns-in-Err-OutOfTurn-clause-heard g c none capacity events (before, tallied) number =
    let s = c.args.self.now in
    let refused = subst (RefusesNext g.S.Offered.Fifo.items g.S.Taken.Fifo.items (g.S.Offered.Fifo.room s.witness.auditor.inside.list) (g.S.Taken.Fifo.room s.witness.taken) c.hear.new.self capacity events (told c.args.event))
    c.in-Err-OutOfTurn.field-0-is (c.in-Err-OutOfTurn.ensures.refused capacity events before) in
    ((refused.0, tallied), stops_here capacity events (told c.args.event) c.args.line _ (heard_linear g.S.Offered.Fifo.items g.S.Taken.Fifo.items capacity events s.witness before) refused.2 refused.1 number)

pub returns-in-Err-NotLinearizable-clause-heard : goal.returns-in-Err-NotLinearizable-clause-heard
returns-in-Err-NotLinearizable-clause-heard g c none capacity events (before, tallied) number =
    let s = c.args.self.now in
    let refused = subst (RefusesNext g.S.Offered.Fifo.items g.S.Taken.Fifo.items (g.S.Offered.Fifo.room s.witness.auditor.inside.list) (g.S.Taken.Fifo.room s.witness.taken) c.hear.new.self capacity events (told c.args.event))
    c.in-Err-NotLinearizable.field-0-is (c.in-Err-NotLinearizable.ensures.refused capacity events before) in (
      (refused.0, tallied),
      stops_here capacity events (told c.args.event) c.args.line _ (heard_linear g.S.Offered.Fifo.items g.S.Taken.Fifo.items capacity events s.witness before) refused.2
          (refused.1, c.cause-cause.ensures capacity events refused.0 number refused.1 refused.2) number,
    )

pub returns-in-Err-OutOfMemory-clause-full : goal.returns-in-Err-OutOfMemory-clause-full
returns-in-Err-OutOfMemory-clause-full g c capacity events (before, tallied) =
    let s = c.args.self.now in
    let o = g.S.Offered.Fifo.room s.witness.auditor.inside.list in
    let t = g.S.Taken.Fifo.room s.witness.taken in
    let needs = subst (RefusesNext g.S.Offered.Fifo.items g.S.Taken.Fifo.items o t c.hear.new.self capacity events (told c.args.event)) c.in-Err-OutOfMemory.field-0-is (c.in-Err-OutOfMemory.ensures.refused capacity events before) in
    subst (λ n. OutgrowsLists n o t capacity (events ++ told c.args.event ∷ [])) c.hear.ensures.limit needs

pub returns-in-Ok-clause-heard : goal.returns-in-Ok-clause-heard
returns-in-Ok-clause-heard g c none =
    let O = g.S.Offered.Fifo.items in
    let T = g.S.Taken.Fifo.items in
    let s = c.args.self.now in
    let w = c.hear.new.self in
    heard_as O T s (record { witness = w; tally = c.count.new.self; begun = s.begun; fault = s.fault }) c.args.line (told c.args.event) None s.fault (sym none) (λ capacity events heard number.
    let (before, tallied) = heard in
    let after = c.in-Ok.ensures.kept capacity events before number in (
      after,
      heard_more O T capacity events s.witness w s.tally c.count.new.self (told c.args.event) before after tallied
          (λ past t tells. c.count.ensures.tallies past t (subst (λ n. IsToldOf (told c.args.event) past n w.auditor.put w.auditor.take) (sym c.offered-offered.ensures) tells))
          c.count.ensures.surely c.count.ensures.perhaps,
    ))
