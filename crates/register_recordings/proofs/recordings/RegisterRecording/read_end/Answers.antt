use Rattle.std.proofs.Common.{arith, ◌≡◌, ◌∙◌, ◌++◌, ◌∷◌, [], List, ℕ, ap, sym}
use Rattle.register_recordings.proofs.Common.{eqb-true, nil_from_length}
use Rattle.register_recordings.proofs.RecordingLemmas.{end_refused, line_ended}
use Rattle.register_recordings.proofs.recordings.RegisterRecording.read_end.Goals as goal

pub returns-in-Err-clause-refused : goal.returns-in-Err-clause-refused
returns-in-Err-clause-refused g c bytes more has = c.in-Err.ensures.refused bytes (10 ∷ more) has

pub returns-in-Ok-read-clause-read : goal.returns-in-Ok-read-clause-read
returns-in-Ok-read-clause-read g c bytes has =
    let cut : List ℕ = g.B.Store.items c.args.self.now.cut in
    let none : cut ≡ [] = nil_from_length cut (eqb-true _ 0 (sym c.is_empty.ensures ∙ c.if-is_empty.true)) in
    line_ended g.W.Fifo.items g.R.Fifo.items g.P.Fifo.items g.C.Fifo.items g.B.Store.items c.args.self.now _ bytes c.args.end.now c.args.end.now has (sym (ap (λ (t : List ℕ). t ++ c.args.end.now) none)) none
    (c.in-Ok-read.ensures.read has.ended has.lines)

pub returns-in-Err-read-clause-refused : goal.returns-in-Err-read-clause-refused
returns-in-Err-read-clause-refused g c bytes more has = grind (arith, end_refused, eqb-true, nil_from_length)

pub returns-clause-read : goal.returns-clause-read
returns-clause-read g c bytes has =
    let cut : List ℕ = g.B.Store.items c.args.self.now.cut in
    let whole : c.as_slice.result.now ≡ cut ++ c.args.end.now = c.as_slice.ensures ∙ c.in_ok-extend_from_slice.ensures.items in
    line_ended g.W.Fifo.items g.R.Fifo.items g.P.Fifo.items g.C.Fifo.items g.B.Store.items c.args.self.now _ bytes c.args.end.now c.as_slice.result.now has whole c.clear.ensures.items
    (c.in-Ok-read-2.ensures.read has.ended has.lines)

pub returns-in-Err-read-2-clause-refused : goal.returns-in-Err-read-2-clause-refused
returns-in-Err-read-2-clause-refused g c bytes more has = grind (arith, end_refused)
