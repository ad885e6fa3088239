-- Traces: what is at the front, one more event, and the one reading of a text.
use Rattle.std.proofs.Common.{◌≡◌, ℕ, ◌+◌, ◌<◌, true, false, Some, None, List, [], ◌∷◌, ◌++◌, length, ap, sym, ◌∙◌, append_assoc, arith}
use Rattle.trace_text.proofs.Common.{none-some, same_Some, Event, Shape, AreOfShape, belongs, event_line, trace_text}
use Rattle.std.proofs.lemmas.Bool.{false≢true}
use Rattle.std.proofs.lemmas.List.{flat_map_more, length-append}
use Rattle.std.proofs.lemmas.List.Elements.{All-push}
use Rattle.trace_text.specs.TraceReading.{event_at, shape_at}
use Rattle.trace_text.specs.Trace.{BeginsWithEvent, HasNoEvent, HasShapeLine}
use Rattle.trace_text.proofs.TraceLines.{event_at-again, small_indices, shape_at-again}

-- the line of an event at the front is read
pub event_found : (shape : Shape) (bytes : List ℕ) (e : Event) (rest : List ℕ) → BeginsWithEvent shape bytes e rest → event_at bytes ≡ Some (e, rest)
event_found shape bytes e rest begins = ap event_at begins.1 ∙ event_at-again e rest (small_indices shape e.bit begins.0)

pub no_event_read : (shape : Shape) (bytes : List ℕ) → event_at bytes ≡ None → HasNoEvent shape bytes
no_event_read shape bytes none e rest begins = none-some (e, rest) (sym none ∙ event_found shape bytes e rest begins)

pub other_event_read : (shape : Shape) (bytes : List ℕ) (f : Event) (after : List ℕ) → event_at bytes ≡ Some (f, after) → belongs shape f.bit ≡ false → HasNoEvent shape bytes
other_event_read shape bytes f after read outside e rest begins = grind (arith, event_found, false≢true, same_Some)

-- the line of numbers at the front is read
pub no_shape_read : (bytes : List ℕ) → shape_at bytes ≡ None → (capacity modulus width batch take_batch : ℕ) → ¬ HasShapeLine bytes capacity modulus width batch take_batch
no_shape_read bytes none capacity modulus width batch take_batch line = grind (arith, none-some, shape_at-again)

-- one more event
pub text_more : (shape : Shape) (events : List Event) (e : Event) (bytes rest others : List ℕ) → bytes ≡ trace_text shape events ++ rest → rest ≡ event_line e ++ others
    → bytes ≡ trace_text shape (events ++ e ∷ []) ++ others
text_more shape events e bytes rest others text begins = grind (arith, append_assoc, flat_map_more)

pub AreOfShape-push : (shape : Shape) (events : List Event) (e : Event) → AreOfShape shape events → belongs shape e.bit ≡ true → AreOfShape shape (events ++ e ∷ [])
AreOfShape-push shape events e all one = All-push (λ (f : Event). belongs shape f.bit ≡ true) events e all one

pub length-push : (events : List Event) (e : Event) → length (events ++ e ∷ []) ≡ length events + 1
length-push events e = length-append events (e ∷ [])

-- the line of an event has at least one byte
pub line_takes : (e : Event) (rest : List ℕ) → length rest < length (event_line e ++ rest)
line_takes e rest = grind (arith, length-append)

-- ---- what stops a reading
