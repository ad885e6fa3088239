use Rattle.std.proofs.Common.{◌∙◌, ◌≢◌, ℕ, List, [], length, ap, sym, subst, arith}
use Rattle.std.proofs.lemmas.Bool.{eq-eqb, eqb-true, false≢true}
use Rattle.queue_calls.proofs.Common.{nil_from_length, IsFindingWithin}
use Rattle.queue_calls.proofs.RecordingLemmas.{found, cut_refused, too_long}
use Rattle.queue_calls.proofs.recordings.RecordingIn.finding.Goals as goal
use Rattle.queue_calls.proofs.recordings.RecordingIn.finding.Goals.{else-self-gt0-via-then-self-gt0+else-is_empty, else-self-gt0-via-else-self-gt0}

pub returns-then-is_empty-clause-found : goal.returns-then-is_empty-clause-found
returns-then-is_empty-clause-found g c bytes has =
    let cut : List ℕ = g.S.Bytes.Store.items c.args.self.now.cut in
    let some : has.ended ≢ [] = λ none. absurd (omega (arith, c.if-self-gt0.true, has.lines.count, ap length none)) in
    let h = c.args.self.now.lines.hearing in
    subst (λ n. IsFindingWithin n bytes c.finding.result) has.lines.limit
    (found g.S.Offered.Fifo.items g.S.Taken.Fifo.items h.witness.limit h c.args.self.now.lines.lacks_calls c.finding.result has.ended bytes cut has.text
    (nil_from_length cut (eqb-true _ 0 (sym c.is_empty.ensures ∙ c.if-is_empty.true))) has.lines.are (has.lines.heard some) c.finding.ensures)

pub returns-in-Some-clause-refused : goal.returns-in-Some-clause-refused
returns-in-Some-clause-refused g c bytes has =
    let cut : List ℕ = g.S.Bytes.Store.items c.args.self.now.cut in
    cut_refused has.ended bytes cut c.in-Some.line has.text has.lines.are has.no_feed (omega (arith, has.lines.count, c.in-Some.ensures.1))
    (λ none. elim c.else-self-gt0.branch [
      | else-self-gt0-via-then-self-gt0+else-is_empty w ↦ absurd (false≢true (sym w.if-is_empty.false ∙ w.is_empty.ensures ∙ eq-eqb _ 0 (ap length none)))
      | else-self-gt0-via-else-self-gt0 w ↦ nil_from_length has.ended (omega (arith, has.lines.count, w.if-self-gt0.false))
    ])

pub returns-in-None-clause-refused : goal.returns-in-None-clause-refused
returns-in-None-clause-refused g c bytes has = too_long has.ended bytes (g.S.Bytes.Store.items c.args.self.now.cut) has.text (omega (arith, has.lines.count, c.in-None.ensures))
