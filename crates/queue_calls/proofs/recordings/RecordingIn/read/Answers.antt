use Rattle.std.proofs.Common.{◌≡◌, ◌∙◌, ◌++◌, ◌∷◌, [], List, ℕ, refl, ap, sym, subst, append_assoc, rules}
use Rattle.std.proofs.lemmas.List.{append-nil}
use Rattle.queue_calls.proofs.Common.{AreTooShort, rooms_in, of_err, then_err, then_ok, RefusesText, HasRead}
use Rattle.queue_calls.specs.declared.faults.RecordingFault.{RecordingFault}
use Rattle.queue_calls.specs.declared.faults.RecordingFault.TheVariants.{OutOfMemory}
use Rattle.queue_calls.proofs.NotingLemmas.{rooms_same, too_short_on}
use Rattle.queue_calls.proofs.recordings.RecordingIn.read.Goals as goal

-- a piece of which a part was read, and then a line
line_read : (piece read rest end more : List ℕ) → piece ≡ read ++ rest → rest ≡ end ++ 10 ∷ more → piece ≡ (read ++ (end ++ 10 ∷ [])) ++ more
line_read piece read rest end more one two =
    one ∙ ap (λ (t : List ℕ). read ++ t) (two ∙ sym (append_assoc end (10 ∷ []) more)) ∙ sym (append_assoc read (end ++ 10 ∷ []) more)

-- the bytes before and after what ends a line
line_refused : (bytes piece read rest end left more : List ℕ) → piece ≡ read ++ rest → rest ≡ end ++ 10 ∷ left → (bytes ++ read) ++ (end ++ 10 ∷ (left ++ more)) ≡ bytes ++ (piece ++ more)
line_refused bytes piece read rest end left more one two =
    append_assoc bytes read (end ++ 10 ∷ (left ++ more))
    ∙ ap (λ (t : List ℕ). bytes ++ t) (ap (λ (t : List ℕ). read ++ t) (sym (append_assoc end (10 ∷ left) more) ∙ ap (λ (t : List ℕ). t ++ more) (sym two))
    ∙ sym (append_assoc read rest more) ∙ ap (λ (t : List ℕ). t ++ more) (sym one))

pub returns-in_err-read_end-clause-refused : goal.returns-in_err-read_end-clause-refused
returns-in_err-read_end-clause-refused g c =
    let read = c.loop-end.invariant in
    let refused : (bytes more : List ℕ) → HasRead g.S.Offered.Fifo.items g.S.Taken.Fifo.items g.S.Bytes.Store.items c.args.self.now bytes → RefusesText c.in_err-read_end.field-0.0 (bytes ++ (c.args.piece.now ++ more)) =
    λ bytes more has.
    subst (RefusesText c.in_err-read_end.field-0.0) (line_refused bytes c.args.piece.now read.0 c.loop-end.rest.now c.in-Some.end.now c.in-Some.more.now more read.1 c.in-Some.ensures.1)
    (c.in_err-read_end.ensures.refused (bytes ++ read.0) (c.in-Some.more.now ++ more) (read.2 bytes has)) in
    search (rules, refused)

pub loop-end-init : goal.loop-end-init
loop-end-init g c = ([], refl, λ bytes has. subst (λ t. HasRead g.S.Offered.Fifo.items g.S.Taken.Fifo.items g.S.Bytes.Store.items c.args.self.now t) (sym (append-nil bytes)) has, refl)

pub loop-end-preserved : goal.loop-end-preserved
loop-end-preserved g c =
    let read = c.loop-end.invariant in
    let line : List ℕ = c.in-Some.end.now ++ 10 ∷ [] in (
      read.0 ++ line,
      line_read c.args.piece.now read.0 c.loop-end.rest.now c.in-Some.end.now c.in-Some.more.now read.1 c.in-Some.ensures.1,
      λ bytes has. subst (λ t. HasRead g.S.Offered.Fifo.items g.S.Taken.Fifo.items g.S.Bytes.Store.items c.read_end.new.self t) (append_assoc (bytes ++ read.0) c.in-Some.end.now (10 ∷ []) ∙ append_assoc bytes read.0 line) (c.in_ok-read_end.ensures.read (bytes ++ read.0) (read.2 bytes has)),
      (let r = c.read_end.ensures.rooms in rooms_same _ _ _ _ _ _ _ _ r.0 r.1 r.2 r.3) ∙ read.3,
    )

pub returns-in_err-read_end-clause-full : goal.returns-in_err-read_end-clause-full
returns-in_err-read_end-clause-full g c =
    let read = c.loop-end.invariant in
    let Short : RecordingFault → Type 0 = λ e. e ≡ OutOfMemory → (bytes : List ℕ) → HasRead g.S.Offered.Fifo.items g.S.Taken.Fifo.items g.S.Bytes.Store.items c.args.self.now bytes →
    AreTooShort (rooms_in g.S.Offered.Fifo.room g.S.Taken.Fifo.room g.S.Numbers.Store.room g.S.Bytes.Store.room c.args.self.now) (bytes ++ c.args.piece.now) in
    let full : Short c.in_err-read_end.field-0.0 =
    λ short bytes has.
    let end : List ℕ = c.in-Some.end.now ++ 10 ∷ [] in
    let so_far = c.in_err-read_end.ensures.full short (bytes ++ read.0) (read.2 bytes has) in
    let text : ((bytes ++ read.0) ++ end) ++ c.in-Some.more.now ≡ bytes ++ c.args.piece.now =
    ap (λ (t : List ℕ). t ++ c.in-Some.more.now) (append_assoc bytes read.0 end) ∙ append_assoc bytes (read.0 ++ end) c.in-Some.more.now
    ∙ ap (λ (t : List ℕ). bytes ++ t) (sym (line_read c.args.piece.now read.0 c.loop-end.rest.now c.in-Some.end.now c.in-Some.more.now read.1 c.in-Some.ensures.1)) in
    subst (λ r. AreTooShort r (bytes ++ c.args.piece.now)) read.3 (subst (AreTooShort _) text (too_short_on _ ((bytes ++ read.0) ++ end) c.in-Some.more.now so_far)) in
    of_err Short c.from_residual.result c.in_err-read_end.field-0.0 (search rules) full

pub returns-clause-read : goal.returns-clause-read
returns-clause-read g c = then_ok c.keep.result c.keep.ensures.read (λ kept bytes has.
    let read = c.loop-end.invariant in
    subst (HasRead g.S.Offered.Fifo.items g.S.Taken.Fifo.items g.S.Bytes.Store.items c.keep.new.self) (append_assoc bytes read.0 c.loop-end.rest.now ∙ ap (λ (t : List ℕ). bytes ++ t) (sym read.1)) (kept (bytes ++ read.0) (read.2 bytes has)))

pub returns-clause-refused : goal.returns-clause-refused
returns-clause-refused g c = then_err c.keep.result c.keep.ensures.refused (λ e refused bytes more has.
    let read = c.loop-end.invariant in
    let rest : List ℕ = c.loop-end.rest.now in
    let text : (bytes ++ read.0) ++ (rest ++ more) ≡ bytes ++ (c.args.piece.now ++ more) =
    append_assoc bytes read.0 (rest ++ more) ∙ ap (λ (t : List ℕ). bytes ++ t) (sym (append_assoc read.0 rest more) ∙ ap (λ (t : List ℕ). t ++ more) (sym read.1)) in
    subst (RefusesText e) text (refused (bytes ++ read.0) more (read.2 bytes has)))

pub returns-clause-full : goal.returns-clause-full
returns-clause-full g c = then_err c.keep.result c.keep.ensures.full (λ e full short bytes has.
    let read = c.loop-end.invariant in
    subst (λ r. AreTooShort r (bytes ++ c.args.piece.now)) read.3
    (subst (AreTooShort _) (append_assoc bytes read.0 c.loop-end.rest.now ∙ ap (λ (t : List ℕ). bytes ++ t) (sym read.1)) (full short (bytes ++ read.0) (read.2 bytes has))))

pub returns-clause-rooms : goal.returns-clause-rooms
returns-clause-rooms g c = (let r = c.keep.ensures.rooms in rooms_same _ _ _ _ _ _ _ _ r.0 r.1 r.2 r.3) ∙ c.loop-end.invariant.3
