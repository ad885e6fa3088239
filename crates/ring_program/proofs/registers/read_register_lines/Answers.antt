use Rattle.std.proofs.Common.{rules, ◌≡◌, ◌∙◌, ℕ, List, [], ◌++◌, append_assoc, ap, refl, subst, sym}
use Rattle.std.proofs.lemmas.Bool.{eqb-true}
use Rattle.std.proofs.lemmas.List.{append-nil, nil_from_length}
use Rattle.register_recordings.specs.Reading.{HasReadRegister}
use Rattle.register_recordings.specs.Recordings.{KeepsClass, RefusesRegisterText}
use Rattle.ring_program.specs.Readings.{HoldsOfLines}
use Rattle.ring_program.proofs.FirstFaults.{ends_at, register_feed}
use Rattle.ring_program.proofs.ReadingLemmas.{around, line_read}
use Rattle.ring_program.proofs.RegisterLemmas.{short_ahead}
use Rattle.ring_program.proofs.registers.read_register_lines.Goals as goal

pub loop-rest-init : goal.loop-rest-init
loop-rest-init g c = ([], refl, λ bytes has. subst (λ t. HasReadRegister (λ q. q.items) (λ q. q.items) (λ q. q.items) (λ q. q.items) (λ v. v.items) c.args.recording.now t) (sym (append-nil bytes)) has, λ bytes has keeps. subst (HoldsOfLines (KeepsClass c.args.class)) (sym (append-nil bytes)) keeps)

pub loop-rest-preserved : goal.loop-rest-preserved
loop-rest-preserved g c =
    let read = c.loop-rest.invariant in
    let line = c.first_line.result.0.now in (
      read.0 ++ line,
      line_read c.args.piece.now read.0 c.loop-rest.rest.now line c.first_line.result.1.now read.1 c.first_line.ensures.parts,
      λ bytes has. subst (λ t. HasReadRegister (λ q. q.items) (λ q. q.items) (λ q. q.items) (λ q. q.items) (λ v. v.items) c.read.new.self t) (append_assoc bytes read.0 line) (c.in_ok-read.ensures.read (bytes ++ read.0) (read.2 bytes has)),
      λ bytes has keeps. subst (HoldsOfLines (KeepsClass c.args.class)) (append_assoc bytes read.0 line) (c.in_default.ensures ((bytes ++ read.0) ++ line) (c.in_ok-read.ensures.read (bytes ++ read.0) (read.2 bytes has))),
    )

pub returns-in_err-read-clause-refused : goal.returns-in_err-read-clause-refused
returns-in_err-read-clause-refused g c =
    let read = c.loop-rest.invariant in
    let line = c.first_line.result.0.now in
    let rest = c.first_line.result.1.now in
    let refused : (bytes more : List ℕ) → HasReadRegister (λ q. q.items) (λ q. q.items) (λ q. q.items) (λ q. q.items) (λ v. v.items) c.args.recording.now bytes → RefusesRegisterText c.in_err-read.field-0.0 (bytes ++ (c.args.piece.now ++ more)) =
    λ bytes more has.
    subst (RefusesRegisterText c.in_err-read.field-0.0)
    (around bytes c.args.piece.now read.0 line rest more (line_read c.args.piece.now read.0 c.loop-rest.rest.now line rest read.1 c.first_line.ensures.parts))
    (c.in_err-read.ensures.refused (bytes ++ read.0) (rest ++ more) (read.2 bytes has)) in
    search (rules, refused)

pub returns-in-Some-clause-read : goal.returns-in-Some-clause-read
returns-in-Some-clause-read g c bytes more has keeps =
    let read = c.loop-rest.invariant in
    let line = c.first_line.result.0.now in
    let rest = c.first_line.result.1.now in
    let short = c.in-Some.ensures ((bytes ++ read.0) ++ line) (c.in_ok-read.ensures.read (bytes ++ read.0) (read.2 bytes has)) in
    short_ahead c.args.class ((bytes ++ read.0) ++ line) short.0 short.1 (bytes ++ (c.args.piece.now ++ more)) (rest ++ more) c.in-Some.found.is_cut c.in-Some.found.finding short.2
    (append_assoc (bytes ++ read.0) line (rest ++ more)
    ∙ around bytes c.args.piece.now read.0 line rest more (line_read c.args.piece.now read.0 c.loop-rest.rest.now line rest read.1 c.first_line.ensures.parts))
    short.4 short.5
    (ends_at (KeepsClass c.args.class) (register_feed c.args.class) (bytes ++ read.0) line short.0 short.1 (read.3 bytes has keeps) c.first_line.ensures.line short.2 short.3)

pub returns-clause-read : goal.returns-clause-read
returns-clause-read g c =
    let read = c.loop-rest.invariant in
    let none : c.loop-rest.rest.now ≡ [] = nil_from_length c.loop-rest.rest.now (eqb-true _ 0 (sym c.is_empty.ensures ∙ c.loop-rest-test.false)) in
    let whole : read.0 ≡ c.args.piece.now = sym (append-nil read.0) ∙ ap (λ (t : List ℕ). read.0 ++ t) (sym none) ∙ sym read.1 in (
      (λ bytes has. subst (λ t. HasReadRegister (λ q. q.items) (λ q. q.items) (λ q. q.items) (λ q. q.items) (λ v. v.items) c.loop-rest.recording (bytes ++ t)) whole (read.2 bytes has)),
      (λ bytes has keeps. subst (λ t. HoldsOfLines (KeepsClass c.args.class) (bytes ++ t)) whole (read.3 bytes has keeps)),
    )
