use Rattle.std.proofs.Common.{◌≡◌, ◌++◌, Option, List, ℕ, refl, sym, subst, rules}
use Rattle.trace_text.proofs.Common.{RefusesTraceText, batch_of, capacity_of, modulus_of, take_batch_of, width_of, event_line, shape_line, TraceHearing, TraceFault, BadLine}
use Rattle.trace_text.specs.TraceAudits.{BeginsWithNoLine, HasEnded}
use Rattle.trace_text.proofs.TraceTexts.{bad_shape_more, behind_ended, event_ends, first_ended, next_ended, no_line_refused, nothing_ended, shape_ends, too_many}
use Rattle.trace_text.proofs.trace_audits.read_line.Goals as goal

-- bytes after the lines that have ended are refused with the fault, whatever follows
abbrev Refused : Option TraceHearing → List ℕ → TraceFault → Type 0
Refused h bytes fault = (text more : List ℕ) → HasEnded h text → RefusesTraceText (text ++ (bytes ++ more)) fault

refused_as : (h : Option TraceHearing) (bytes : List ℕ) (fault told : TraceFault) → told ≡ fault → Refused h bytes fault → Refused h bytes told
refused_as h bytes fault told is refused text more ended = subst (λ f. RefusesTraceText (text ++ (bytes ++ more)) f) (sym is) (refused text more ended)

pub returns-in_err-unread-in-Ok-None-clause-refused : goal.returns-in_err-unread-in-Ok-None-clause-refused
returns-in_err-unread-in-Ok-None-clause-refused c =
    let h = c.args.hearing.now in
    let bytes = c.args.bytes.now in
    let r = c.in_err-unread-in-Ok-None.ensures.refused in
    let none = rw c.in-Ok-None.field-0-is at c.in-Ok-None.ensures.read in
    let refused = refused_as h bytes (BadLine 1) c.in_err-unread-in-Ok-None.field-0.0 r.2 (λ text more ended.
    no_line_refused (BadLine 1) h bytes r.0 r.1 text more (λ rest no there. nothing_ended h text rest c.in-None.is ended no) r.3 r.4 (subst (λ x. BeginsWithNoLine x bytes) (sym c.in-None.is) none)) in
    search (rules, refused)

pub returns-in_err-hear-in-Some-read_event-clause-refused : goal.returns-in_err-hear-in-Some-read_event-clause-refused
returns-in_err-hear-in-Some-read_event-clause-refused c =
    let r = c.in_err-hear-in-Some-read_event.ensures.refused in
    search (rules, refused_as, too_many, c.in-Some.is)

pub returns-in_err-unread-in-None-read_event-clause-refused : goal.returns-in_err-unread-in-None-read_event-clause-refused
returns-in_err-unread-in-None-read_event-clause-refused c =
    let h = c.args.hearing.now in
    let bytes = c.args.bytes.now in
    let fault = c.fault_behind.result in
    let r = c.in_err-unread-in-None-read_event.ensures.refused in
    let refused = refused_as h bytes fault c.in_err-unread-in-None-read_event.field-0.0 r.2 (λ text more ended.
    no_line_refused fault h bytes r.0 r.1 text more (λ rest no there. behind_ended h c.in-Some.heard fault text rest c.in-Some.is c.fault_behind.ensures ended no there) r.3 r.4
    (subst (λ x. BeginsWithNoLine x bytes) (sym c.in-Some.is) c.in-None-read_event.ensures)) in
    search (rules, refused)

pub returns-in-Ok-Some-clause-read : goal.returns-in-Ok-Some-clause-read
returns-in-Ok-Some-clause-read c =
    let shape = c.in-Ok-Some.shape in
    let begins = rw c.in-Ok-Some.field-0-is at c.in-Ok-Some.ensures.read in (
      shape_line (capacity_of shape) (modulus_of shape) (width_of shape) (batch_of shape) (take_batch_of shape),
      shape_ends shape,
      begins,
      λ text ended. first_ended c.args.hearing.now c.new.result shape text c.in-None.is ended c.new.ensures,
    )

pub returns-in_ok-hear-in-Some-read_event-clause-read : goal.returns-in_ok-hear-in-Some-read_event-clause-read
returns-in_ok-hear-in-Some-read_event-clause-read c =
    let e = c.in-Some-read_event.event in
    let begins = c.in-Some-read_event.ensures in (
      event_line e,
      event_ends c.in-Some.heard.shape e begins.0,
      begins.1,
      λ text ended. next_ended c.args.hearing.now c.in-Some.heard c.hear.new.self e text c.in-Some.is ended begins.0 c.in_ok-hear-in-Some-read_event.ensures.heard,
    )

pub returns-in-Err-clause-refused : goal.returns-in-Err-clause-refused
returns-in-Err-clause-refused c = λ text more ended.
    bad_shape_more c.in-Err.fault text c.args.bytes.now more (subst (λ h. HasEnded h text) c.in-None.is ended) c.in-Err.ensures.refused

pub returns-in_ok-unread-in-Ok-None-clause-read : goal.returns-in_ok-unread-in-Ok-None-clause-read
returns-in_ok-unread-in-Ok-None-clause-read c = (c.in_ok-unread-in-Ok-None.ensures.unended, refl)

pub returns-in_ok-unread-in-None-read_event-clause-read : goal.returns-in_ok-unread-in-None-read_event-clause-read
returns-in_ok-unread-in-None-read_event-clause-read c = (c.in_ok-unread-in-None-read_event.ensures.unended, sym c.in-Some.is)
