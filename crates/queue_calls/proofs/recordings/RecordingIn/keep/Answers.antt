use Rattle.std.proofs.Common.{◌≡◌, ◌≢◌, ◌∙◌, ◌+◌, ◌*◌, ◌<◌, ◌++◌, [], List, ℕ, Bool, inr, length, ap, sym, subst, append-nil, append_assoc, length-append, arith}
use Rattle.queue_calls.proofs.Common.{false≢true, All-append, lines_text, if_err}
use Rattle.std.specs.Prelude.{◌==◌}
use Rattle.call_lines.specs.Beginnings.{BeginsLine, BeginsNoLine}
use Rattle.queue_calls.specs.RecordingStates.{KeepsBeginning}
use Rattle.queue_calls.proofs.KeptLines.{all_begins, begins_bad, bytes_kept, still_begins}
use Rattle.queue_calls.proofs.RecordingLemmas.{too_long}
use Rattle.queue_calls.proofs.recordings.RecordingIn.keep.Goals as goal

pub returns-in_err-extend_from_slice-clause-full : goal.returns-in_err-extend_from_slice-clause-full
returns-in_err-extend_from_slice-clause-full g c = if_err c.from_residual.result (λ e short text has.
    let cut : List ℕ = g.S.Bytes.Store.items c.args.self.now.cut in
    let bytes : List ℕ = c.args.bytes.now in
    inr (inr (record {
      lines = has.ended;
      bytes = cut ++ bytes;
      rest = [];
      parts = ap (λ (t : List ℕ). t ++ bytes) has.text ∙ append_assoc (lines_text has.ended) cut bytes ∙ ap (λ (t : List ℕ). lines_text has.ended ++ t) (sym (append-nil (cut ++ bytes)));
      no_feed = All-append (λ b. b ≢ 10) cut bytes has.no_feed c.requires;
      more = omega (arith, c.in_err-extend_from_slice.ensures.full, length-append cut bytes);
    })))

pub returns-then-saturating_sub-saturating_add-clause-read : goal.returns-then-saturating_sub-saturating_add-clause-read
returns-then-saturating_sub-saturating_add-clause-read g c text has =
    let cut : List ℕ = g.S.Bytes.Store.items c.args.self.now.cut in
    let bytes : List ℕ = c.args.bytes.now in
    let begun : ℕ = c.args.self.now.begun in
    let is_first : Bool = length has.ended == 0 in
    let all : g.S.Bytes.Store.items c.extend_from_slice.new.self ≡ cut ++ bytes = c.in_ok-extend_from_slice.ensures.items in
    let long : length c.as_slice-length.result.now ≡ length (cut ++ bytes) = ap length (c.as_slice-length.ensures ∙ all) in
    let few : length (cut ++ bytes) < 2 * begun + 65536 =
    omega (arith, long, c.if-saturating_sub-saturating_add.true, c.saturating_sub.ensures, c.saturating_add.ensures) in
    bytes_kept g.S.Offered.Fifo.items g.S.Taken.Fifo.items g.S.Bytes.Store.items c.args.self.now _ text bytes has c.requires all has.lines
    (subst (KeepsBeginning is_first begun) (sym all) (still_begins is_first begun cut bytes has.begins few))

pub returns-then-may_begin-clause-read : goal.returns-then-may_begin-clause-read
returns-then-may_begin-clause-read g c text has =
    let cut : List ℕ = g.S.Bytes.Store.items c.args.self.now.cut in
    let kept : List ℕ = g.S.Bytes.Store.items c.extend_from_slice.new.self in
    let bytes : List ℕ = c.args.bytes.now in
    let is_first : Bool = length has.ended == 0 in
    let first : (c.args.self.now.lines.count == 0) ≡ is_first = ap (λ (n : ℕ). n == 0) has.lines.count in
    let begins : BeginsLine is_first kept =
    subst (λ f. BeginsLine f kept) first (subst (λ (t : List ℕ). BeginsLine (c.args.self.now.lines.count == 0) t) c.as_slice.ensures (c.may_begin.ensures.begins.0 c.if-may_begin.true)) in
    bytes_kept g.S.Offered.Fifo.items g.S.Taken.Fifo.items g.S.Bytes.Store.items c.args.self.now _ text bytes has c.requires c.in_ok-extend_from_slice.ensures.items has.lines
    (subst (λ (n : ℕ). KeepsBeginning is_first n kept) (sym (ap length c.as_slice-length.ensures)) (all_begins is_first kept begins))

pub returns-in-Some-clause-refused : goal.returns-in-Some-clause-refused
returns-in-Some-clause-refused g c text more has =
    let cut : List ℕ = g.S.Bytes.Store.items c.args.self.now.cut in
    let bytes : List ℕ = c.args.bytes.now in
    let none : Bool = c.args.self.now.lines.count == 0 in
    let is_first : Bool = length has.ended == 0 in
    let first : none ≡ is_first = ap (λ (n : ℕ). n == 0) has.lines.count in
    let here : c.as_slice.result.now ≡ cut ++ bytes = c.as_slice.ensures ∙ c.in_ok-extend_from_slice.ensures.items in
    let other : ¬ BeginsLine is_first (cut ++ bytes) =
    λ begins. false≢true (sym c.if-may_begin.false ∙ c.may_begin.ensures.begins.1 (subst (λ (t : List ℕ). BeginsLine none t) (sym here) (subst (λ f. BeginsLine f (cut ++ bytes)) (sym first) begins))) in
    let never : BeginsNoLine is_first (cut ++ bytes) =
    subst (λ f. BeginsNoLine f (cut ++ bytes)) first (subst (λ (t : List ℕ). BeginsNoLine none t) here (c.may_begin.ensures.none c.if-may_begin.false)) in
    begins_bad has.ended text cut bytes more c.in-Some.number has.text has.lines.are has.no_feed c.requires (omega (arith, has.lines.count, c.in-Some.ensures.1)) other never

pub returns-in-None-clause-refused : goal.returns-in-None-clause-refused
returns-in-None-clause-refused g c text more has = grind (arith, too_long, append_assoc)
