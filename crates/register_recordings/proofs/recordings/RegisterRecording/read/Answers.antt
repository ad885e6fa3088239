use Rattle.std.proofs.Common.{arith, ◌≡◌, ◌∙◌, ◌++◌, ◌∷◌, [], List, ℕ, refl, ap, sym, subst, append_assoc, rules}
use Rattle.register_recordings.proofs.Common.{append-nil, RefusesRegisterText, HasReadRegister}
use Rattle.lists.proofs.Results.{then_err, then_ok}
use Rattle.register_recordings.proofs.recordings.RegisterRecording.read.Goals as goal

-- a piece that was read in part, and then a line
-- again, since this crate does not depend on recordings of calls
line_read : (piece read rest end more : List ℕ) → piece ≡ read ++ rest → rest ≡ end ++ 10 ∷ more → piece ≡ (read ++ (end ++ 10 ∷ [])) ++ more
line_read piece read rest end more one two = grind (arith, append_assoc)

-- the bytes before and after what ends a line
-- again, since this crate does not depend on recordings of calls
line_refused : (bytes piece read rest end left more : List ℕ) → piece ≡ read ++ rest → rest ≡ end ++ 10 ∷ left → (bytes ++ read) ++ (end ++ 10 ∷ (left ++ more)) ≡ bytes ++ (piece ++ more)
line_refused bytes piece read rest end left more one two = grind (arith, append_assoc)

pub returns-in_err-read_end-clause-refused : goal.returns-in_err-read_end-clause-refused
returns-in_err-read_end-clause-refused g c =
    let read = c.loop-end.invariant in
    let refused : (bytes more : List ℕ) → HasReadRegister g.W.Fifo.items g.R.Fifo.items g.P.Fifo.items g.C.Fifo.items g.B.Store.items c.args.self.now bytes → RefusesRegisterText c.in_err-read_end.field-0.0 (bytes ++ (c.args.piece.now ++ more)) =
    λ bytes more has.
    subst (RefusesRegisterText c.in_err-read_end.field-0.0) (line_refused bytes c.args.piece.now read.0 c.loop-end.rest.now c.in-Some.end.now c.in-Some.more.now more read.1 c.in-Some.ensures.1)
    (c.in_err-read_end.ensures.refused (bytes ++ read.0) (c.in-Some.more.now ++ more) (read.2 bytes has)) in
    search (rules, refused)

pub loop-end-init : goal.loop-end-init
loop-end-init g c = ([], refl, λ bytes has. subst (λ t. HasReadRegister g.W.Fifo.items g.R.Fifo.items g.P.Fifo.items g.C.Fifo.items g.B.Store.items c.args.self.now t) (sym (append-nil bytes)) has)

pub loop-end-preserved : goal.loop-end-preserved
loop-end-preserved g c =
    let read = c.loop-end.invariant in
    let line : List ℕ = c.in-Some.end.now ++ 10 ∷ [] in (
      read.0 ++ line,
      line_read c.args.piece.now read.0 c.loop-end.rest.now c.in-Some.end.now c.in-Some.more.now read.1 c.in-Some.ensures.1,
      λ bytes has.
          subst (λ t. HasReadRegister g.W.Fifo.items g.R.Fifo.items g.P.Fifo.items g.C.Fifo.items g.B.Store.items c.read_end.new.self t) (append_assoc (bytes ++ read.0) c.in-Some.end.now (10 ∷ []) ∙ append_assoc bytes read.0 line)
          (c.in_ok-read_end.ensures.read (bytes ++ read.0) (read.2 bytes has)),
    )

pub returns-clause-read : goal.returns-clause-read
returns-clause-read g c = grind (arith, then_ok, append_assoc, c.keep.ensures.read, c.loop-end.invariant)

pub returns-clause-refused : goal.returns-clause-refused
returns-clause-refused g c = then_err c.keep.result c.keep.ensures.refused (λ e refused bytes more has.
    let read = c.loop-end.invariant in
    let rest : List ℕ = c.loop-end.rest.now in
    let text : (bytes ++ read.0) ++ (rest ++ more) ≡ bytes ++ (c.args.piece.now ++ more) =
    append_assoc bytes read.0 (rest ++ more) ∙ ap (λ (t : List ℕ). bytes ++ t) (sym (append_assoc read.0 rest more) ∙ ap (λ (t : List ℕ). t ++ more) (sym read.1)) in
    subst (RefusesRegisterText e) text (refused (bytes ++ read.0) more (read.2 bytes has)))
