use Rattle.std.proofs.Common.{◌≡◌, ◌≢◌, inr, length-append, arith, ◌∙◌, ◌++◌, ◌∷◌, [], List, ℕ, ap, length, sym, rules}
use Rattle.queue_calls.proofs.Common.{eqb-true, nil_from_length, All-append, lines_text, AreTooShort, rooms_in, HasRead, if_err, of_err}
use Rattle.queue_calls.specs.declared.faults.RecordingFault.{RecordingFault}
use Rattle.queue_calls.specs.declared.faults.RecordingFault.TheVariants.{OutOfMemory}
use Rattle.queue_calls.proofs.RecordingLemmas.{end_refused, ended_text, line_ended}
use Rattle.queue_calls.proofs.NotingLemmas.{line_short}
use Rattle.queue_calls.proofs.recordings.RecordingIn.read_end.Goals as goal

pub returns-in-Ok-clause-read : goal.returns-in-Ok-clause-read
returns-in-Ok-clause-read g c bytes has =
    let cut : List ℕ = g.S.Bytes.Store.items c.args.self.now.cut in
    let none : cut ≡ [] = nil_from_length cut (eqb-true _ 0 (sym c.is_empty.ensures ∙ c.if-is_empty.true)) in
    let (l, on, lines) = c.in-Ok.ensures.read has.ended has.lines in
    line_ended g.S.Offered.Fifo.items g.S.Taken.Fifo.items g.S.Bytes.Store.items c.args.self.now _ bytes c.args.end.now has l (ap (λ (t : List ℕ). t ++ c.args.end.now) none ∙ on.1) none (omega (arith, has.begins.within, ap length none)) lines

pub returns-clause-read : goal.returns-clause-read
returns-clause-read g c bytes has = grind (arith, line_ended)

pub returns-in-Err-clause-refused : goal.returns-in-Err-clause-refused
returns-in-Err-clause-refused g c bytes more has = grind (arith, nil_from_length, eqb-true, end_refused)

pub returns-in_err-read-clause-refused : goal.returns-in_err-read-clause-refused
returns-in_err-read-clause-refused g c = grind (arith, end_refused)

pub returns-in-Err-clause-full : goal.returns-in-Err-clause-full
returns-in-Err-clause-full g c short bytes has =
    let cut : List ℕ = (g.S.Bytes.Store.items c.args.self.now.cut) in
    let none : cut ≡ [] = nil_from_length cut (eqb-true _ 0 (sym c.is_empty.ensures ∙ c.if-is_empty.true)) in
    line_short (rooms_in g.S.Offered.Fifo.room g.S.Taken.Fifo.room g.S.Numbers.Store.room g.S.Bytes.Store.room c.args.self.now) has.ended c.args.end.now (bytes ++ (c.args.end.now ++ 10 ∷ []))
    (ended_text has.ended bytes cut c.args.end.now [] has.text ∙ ap (λ (t : List ℕ). lines_text has.ended ++ ((t ++ c.args.end.now) ++ 10 ∷ [])) none) (c.in-Err.ensures.full short has.ended has.lines)

pub returns-in_err-extend_from_slice-clause-full : goal.returns-in_err-extend_from_slice-clause-full
returns-in_err-extend_from_slice-clause-full g c = if_err c.from_residual.result (λ e short bytes has.
    let cut : List ℕ = (g.S.Bytes.Store.items c.args.self.now.cut) in
    inr (inr (record {
      lines = has.ended;
      bytes = cut ++ c.args.end.now;
      rest = 10 ∷ [];
      parts = ended_text has.ended bytes cut c.args.end.now [] has.text;
      no_feed = All-append (λ b. b ≢ 10) cut c.args.end.now has.no_feed c.requires;
      more = omega (arith, c.in_err-extend_from_slice.ensures.full, length-append cut c.args.end.now);
    })))

pub returns-in_err-read-clause-full : goal.returns-in_err-read-clause-full
returns-in_err-read-clause-full g c =
    let Short : RecordingFault → Type 0 = λ e. e ≡ OutOfMemory → (bytes : List ℕ) → HasRead g.S.Offered.Fifo.items g.S.Taken.Fifo.items g.S.Bytes.Store.items c.args.self.now bytes →
    AreTooShort (rooms_in g.S.Offered.Fifo.room g.S.Taken.Fifo.room g.S.Numbers.Store.room g.S.Bytes.Store.room c.args.self.now) (bytes ++ (c.args.end.now ++ 10 ∷ [])) in
    let full : Short c.in_err-read.field-0.0 =
    λ short bytes has.
    let cut : List ℕ = (g.S.Bytes.Store.items c.args.self.now.cut) in
    let line_is : c.as_slice.result.now ≡ cut ++ c.args.end.now = c.as_slice.ensures ∙ c.in_ok-extend_from_slice.ensures.items in
    line_short (rooms_in g.S.Offered.Fifo.room g.S.Taken.Fifo.room g.S.Numbers.Store.room g.S.Bytes.Store.room c.args.self.now) has.ended c.as_slice.result.now (bytes ++ (c.args.end.now ++ 10 ∷ []))
    (ended_text has.ended bytes cut c.args.end.now [] has.text ∙ ap (λ (t : List ℕ). lines_text has.ended ++ (t ++ 10 ∷ [])) (sym line_is)) (c.in_err-read.ensures.full short has.ended has.lines) in
    of_err Short c.from_residual-in_err-read.result c.in_err-read.field-0.0 (search rules) full
