-- Bytes are a trace or have a fault, found line by line.
use Rattle.std.proofs.Common.{rules, ◌≡◌, ◌⊎◌, ℕ, zero, suc, ◌+◌, ◌<◌, ◌≤◌, true, false, Option, Some, None, List, [], ◌∷◌, ◌++◌, length, refl, ap, sym, inl, inr, arith, ◌∙◌}
use Rattle.std.proofs.lemmas.Bool.{cases_lt}
use Rattle.std.proofs.lemmas.List.{append-nil}
use Rattle.trace_text.specs.declared.traces.TheConstants.{EVENT_LIMIT}
use Rattle.trace_text.proofs.Common.{Event, Shape, TraceFault, BadShape, BadLine, TooLong, AreOfShape, belongs, event_line, shape_line, trace_text}
use Rattle.trace_text.specs.declared.reading.Numbers.{Numbers}
use Rattle.trace_text.specs.TraceReading.{event_at, shape_at}
use Rattle.trace_text.specs.Trace.{HasNoEvent, IsTraceAndMore, IsTrace, IsTraceFault}
use Rattle.trace_text.specs.Laws.{TraceOrFault}
use Rattle.bits_core.proofs.ShapeLemmas.{shape_told}
use Rattle.trace_text.proofs.TraceLines.{BeginsShape, bad_numbers, begins_numbers, event_at-text, shape_at-text}
use Rattle.trace_text.proofs.TraceLemmas.{AreOfShape-push, length-push, line_takes, no_event_read, no_shape_read, other_event_read, text_more}

abbrev Told : List ℕ → Type 0
Told bytes = ((shape : Shape) × (events : List Event) × IsTrace bytes shape events) ⊎ ((fault : TraceFault) × IsTraceFault bytes fault)

-- ---- the lines of events

-- what follows events and is not an event is a fault
bad_line : (bytes : List ℕ) (shape : Shape) (events : List Event) (rest : List ℕ) → IsTraceAndMore bytes shape events rest → length events < EVENT_LIMIT → HasNoEvent shape rest → Told bytes
bad_line bytes shape events rest goes_on room no_event =
    inr (BadLine (length events + 2), inr (record { shape = shape; events = events; rest = rest; goes_on = goes_on; room = room; no_event = no_event; number = refl }))

-- what follows events is read or a fault, if what follows one more event is
next_line :
    (bytes : List ℕ) (shape : Shape) (events : List Event) (rest : List ℕ) → IsTraceAndMore bytes shape events rest → length events < EVENT_LIMIT →
    ((e : Event) (others : List ℕ) → length others < length rest → bytes ≡ trace_text shape (events ++ e ∷ []) ++ others → AreOfShape shape (events ++ e ∷ []) → Told bytes) →
    (r : Option (Event × List ℕ)) → event_at rest ≡ r → Told bytes
next_line bytes shape events rest goes_on room further None none = search (rules, bad_line, no_event_read)
next_line bytes shape events rest goes_on room further (Some (e, others)) read =
    let text : rest ≡ event_line e ++ others = event_at-text rest (e, others) read in
    elim (belongs shape e.bit) as (λ t. belongs shape e.bit ≡ t → Told bytes) [
      | true ↦ λ inside.
          further e others (omega (arith, ap length text, line_takes e others)) (text_more shape events e bytes rest others goes_on.text text)
          (AreOfShape-push shape events e goes_on.of_shape inside)
      | false ↦ λ outside. bad_line bytes shape events rest goes_on room (other_event_read shape rest e others read outside)
    ] refl

lines_told :
    (n : ℕ) (bytes : List ℕ) (shape : Shape) (events : List Event) (rest : List ℕ) → length rest ≤ n →
    bytes ≡ trace_text shape events ++ rest → AreOfShape shape events → length events ≤ EVENT_LIMIT → Told bytes
lines_told n bytes shape events [] short text of_shape within =
    inl (shape, events, record { text = text ∙ append-nil (trace_text shape events); of_shape = of_shape; within = within })
lines_told zero bytes shape events (b ∷ rest) short text of_shape within = absurd (omega arith)
lines_told (suc n) bytes shape events (b ∷ rest) short text of_shape within =
    let goes_on : IsTraceAndMore bytes shape events (b ∷ rest) = record { text = text; of_shape = of_shape; more = λ nothing. omega (arith, ap length nothing) } in
    elim (cases_lt (length events) EVENT_LIMIT) [
      | inl room ↦ next_line bytes shape events (b ∷ rest) goes_on room
          (λ e others shorter text_then of_shape_then.
          lines_told n bytes shape (events ++ e ∷ []) others (omega (arith, short, shorter)) text_then of_shape_then (omega (arith, room, length-push events e)))
          (event_at (b ∷ rest)) refl
      | inr full ↦ inr (TooLong, record { shape = shape; events = events; rest = b ∷ rest; goes_on = goes_on; full = omega (arith, full, within) })
    ]

-- ---- the whole

from_line : (bytes : List ℕ) (r : Option (Numbers × List ℕ)) → shape_at bytes ≡ r → Told bytes
from_line bytes None none = inr (BadLine 1, inl (refl, no_shape_read bytes none))
from_line bytes (Some (n, rest)) read =
    let line : BeginsShape bytes (n, rest) = shape_at-text bytes (n, rest) read in
    elim (shape_told n.capacity n.modulus n.width n.batch n.take_batch) [
      | inl s ↦
          lines_told (length rest) bytes s.0 [] rest (omega arith)
          (begins_numbers bytes rest n s.0 line s.1 ∙ ap (λ (t : List ℕ). t ++ rest) (sym (append-nil (shape_line s.0.capacity s.0.modulus s.0.width s.0.batch s.0.take_batch))))
          (λ k d below. absurd (omega arith)) (omega arith)
      | inr f ↦ inr (BadShape f.0, bad_numbers bytes rest n f.0 line f.1)
    ]

pub trace_or_fault : TraceOrFault
trace_or_fault bytes = from_line bytes (shape_at bytes) refl
