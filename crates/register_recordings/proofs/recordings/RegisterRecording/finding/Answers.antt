use Rattle.std.proofs.Common.{◌≡◌, ◌∙◌, ◌≢◌, ℕ, List, [], length, ap, sym, arith}
use Rattle.std.proofs.lemmas.Bool.{eq-eqb, eqb-true, false≢true}
use Rattle.std.proofs.lemmas.List.{nil_from_length}
use Rattle.register_recordings.proofs.RecordingLemmas.{cut_bad, found, too_long}
use Rattle.register_recordings.proofs.recordings.RegisterRecording.finding.Goals as goal
use Rattle.register_recordings.proofs.recordings.RegisterRecording.finding.Goals.{then-not-is_empty-via-then-not-is_empty, then-not-is_empty-via-else-not-is_empty+then-self-eq0}

pub returns-clause-found : goal.returns-clause-found
returns-clause-found g c bytes has =
    let cut : List ℕ = g.B.Store.items c.args.self.now.cut in
    let some : has.ended ≢ [] = λ none. absurd (omega (arith, c.if-self-eq0.false, has.lines.count, ap length none)) in
    let none : cut ≡ [] = nil_from_length cut (eqb-true _ 0 (sym c.is_empty.ensures ∙ c.if-not-is_empty.false)) in
    found g.W.Fifo.items g.R.Fifo.items g.P.Fifo.items g.C.Fifo.items c.args.self.now.lines c.finding.result has.ended bytes cut has.text none some has.lines c.finding.ensures

pub returns-in-Some-clause-refused : goal.returns-in-Some-clause-refused
returns-in-Some-clause-refused g c bytes has = grind (arith, cut_bad, eq-eqb, false≢true, nil_from_length)

pub returns-in-None-clause-refused : goal.returns-in-None-clause-refused
returns-in-None-clause-refused g c bytes has = too_long has.ended bytes (g.B.Store.items c.args.self.now.cut) has.text (omega (arith, has.lines.count, c.in-None.ensures))
