-- The text of a trace of any length, line by line: what its end shows, and what is refused.
use Rattle.std.proofs.Common.{◌≡◌, ◌≢◌, ℕ, ◌+◌, ◌-◌, ◌^◌, ◌<◌, ◌≤◌, true, Option, Some, None, List, [], ◌∷◌, ◌++◌, length, refl, ap, sym, subst, ◌∙◌, append_assoc, length-append, inl, inr, arith}
use Rattle.std.specs.List.{flat_map}
use Rattle.std.specs.Prelude.{MatchOption}
use Rattle.std.proofs.lemmas.List.{append-nil, flat_map_more}
use Rattle.std.proofs.lemmas.List.Elements.{All-append, All-nil}
use Rattle.trace_text.proofs.Common.{none-some, same_Some, Event, Shape, ShapeFault, TraceHearing, TraceFault, batch_of, belongs, capacity_of, modulus_of, take_batch_of, width_of, HasBadShape}
use Rattle.trace_text.proofs.Common.{HasNoEvent, IsTraceText, RefusesTraceText, event_line, shape_line}
use Rattle.trace_text.specs.declared.faults.TraceFault.TheVariants.{BadShape, BadLine, TooLong, OutOfMemory}
use Rattle.trace_text.specs.TraceAudits.{BeginsWithNoLine, EndedLines, HasEnded, HeardTrace, IsFaultBehind}
use Rattle.line_parts.specs.LineEnds.{HasNoFeed, EndsAtFeed}
use Rattle.trace_text.proofs.LineEnds.{event_line_ends, shape_line_ends, line_before_more, too_long_a_line, no_line_ended}
use Rattle.line_parts.proofs.LineFeeds.{feed_nowhere, feed_once}
use Rattle.trace_text.proofs.TraceLemmas.{AreOfShape-push, line_takes}
use Rattle.trace_text.proofs.TraceLines.{bad_line, small_indices}

-- ---- how many bytes lines have

many_bytes : (events : List Event) → length events ≤ length (flat_map event_line events)
many_bytes [] = omega arith
many_bytes (e ∷ events) = omega (arith, many_bytes events, line_takes e (flat_map event_line events))

shape_bytes : (c m w g h : ℕ) → 0 < length (shape_line c m w g h)
shape_bytes c m w g h = grind arith

pub text_bytes : (text : List ℕ) (shape : Shape) (events : List Event) → IsTraceText text shape events → length events + 1 ≤ length text
text_bytes text shape events is = grind (arith, length-append, many_bytes, shape_bytes)

-- ---- bytes that start with no line

pub no_line_more : (h : Option TraceHearing) (bytes line behind more : List ℕ) → EndsAtFeed line → bytes ≡ line ++ behind → BeginsWithNoLine h bytes → BeginsWithNoLine h (bytes ++ more)
no_line_more None bytes line behind more ends text none = λ c m w g h has.
    let parts : bytes ≡ ends.front ++ 10 ∷ behind = text ∙ ap (λ (t : List ℕ). t ++ behind) ends.text ∙ append_assoc ends.front (10 ∷ []) behind in
    none c m w g h (record {
      rest = behind;
      text = line_before_more bytes ends.front behind more (shape_line c m w g h) has.rest parts ends.feedless (shape_line_ends c m w g h has.short_capacity has.short_modulus has.short_width has.short_batch has.short_take_batch).ends has.text;
      short_capacity = has.short_capacity;
      short_modulus = has.short_modulus;
      short_width = has.short_width;
      short_batch = has.short_batch;
      short_take_batch = has.short_take_batch;
    })
no_line_more (Some hearing) bytes line behind more ends text none = λ e rest begins.
    let parts : bytes ≡ ends.front ++ 10 ∷ behind = text ∙ ap (λ (t : List ℕ). t ++ behind) ends.text ∙ append_assoc ends.front (10 ∷ []) behind in
    none e behind (begins.0, line_before_more bytes ends.front behind more (event_line e) rest parts ends.feedless (event_line_ends e (small_indices hearing.shape e.bit begins.0)).ends begins.1)

pub no_line_long : (h : Option TraceHearing) (bytes more : List ℕ) → HasNoFeed bytes → 31 ≤ length bytes → BeginsWithNoLine h (bytes ++ more)
no_line_long None bytes more none long = λ c m w g h has.
    too_long_a_line bytes more (shape_line c m w g h) has.rest none long (shape_line_ends c m w g h has.short_capacity has.short_modulus has.short_width has.short_batch has.short_take_batch) has.text
no_line_long (Some hearing) bytes more none long = λ e rest begins.
    too_long_a_line bytes more (event_line e) rest none long (event_line_ends e (small_indices hearing.shape e.bit begins.0)) begins.1

pub no_line_unended : (h : Option TraceHearing) (bytes : List ℕ) → HasNoFeed bytes → BeginsWithNoLine h bytes
no_line_unended None bytes none = λ c m w g h has.
    no_line_ended bytes (shape_line c m w g h) has.rest none (shape_line_ends c m w g h has.short_capacity has.short_modulus has.short_width has.short_batch has.short_take_batch).ends has.text
no_line_unended (Some hearing) bytes none = λ e rest begins.
    no_line_ended bytes (event_line e) rest none (event_line_ends e (small_indices hearing.shape e.bit begins.0)).ends begins.1

-- ---- refusals after the lines that have ended

behind_events : (fault : TraceFault) (shape : Shape) (events : List Event) (text rest : List ℕ) → IsTraceText text shape events → IsFaultBehind (length events) fault → HasNoEvent shape rest → rest ≢ []
    → RefusesTraceText (text ++ rest) fault
behind_events (BadShape f) shape events text rest is fault none more = absurd fault
behind_events (BadLine line) shape events text rest is fault none more = inr (record {
  shape = shape;
  events = events;
  rest = rest;
  goes_on = record { text = ap (λ (t : List ℕ). t ++ rest) is.text; of_shape = is.of_shape; more = more };
  no_event = none;
  number = fault;
})
behind_events TooLong shape events text rest is fault none more = omega (arith, fault, text_bytes text shape events is, length-append text rest)
behind_events OutOfMemory shape events text rest is fault none more = absurd fault

pub nothing_ended : (h : Option TraceHearing) (text rest : List ℕ) → h ≡ None → HasEnded h text → BeginsWithNoLine h rest → RefusesTraceText (text ++ rest) (BadLine 1)
nothing_ended None text rest is ended none = subst (λ (t : List ℕ). RefusesTraceText (t ++ rest) (BadLine 1)) (sym ended) (inl (refl, none))
nothing_ended (Some hearing) text rest is ended none = absurd (none-some hearing (sym is))

pub behind_ended : (h : Option TraceHearing) (heard : TraceHearing) (fault : TraceFault) (text rest : List ℕ) → h ≡ Some heard → IsFaultBehind heard.count fault → HasEnded h text → BeginsWithNoLine h rest → (rest ≡ [] → h ≡ None)
    → RefusesTraceText (text ++ rest) fault
behind_ended h heard fault text rest h1 h2 h3 h4 h5 = grind (arith, behind_events, none-some, same_Some)

-- bytes that have ended and are not a line
pub no_line_refused : (fault : TraceFault) (h : Option TraceHearing) (bytes line behind text more : List ℕ)
    → ((rest : List ℕ) → BeginsWithNoLine h rest → (rest ≡ [] → h ≡ None) → RefusesTraceText (text ++ rest) fault)
    → EndsAtFeed line → bytes ≡ line ++ behind → BeginsWithNoLine h bytes → RefusesTraceText (text ++ (bytes ++ more)) fault
no_line_refused fault h bytes line behind text more refuses ends parts none = grind (arith, (length-append bytes more), (length-append line behind), (length-append ends.front (10 ∷ [])), (no_line_more h bytes line behind more ends parts none), ends.front, ends.text)

pub bad_shape_more : (fault : ShapeFault) (text bytes more : List ℕ) → text ≡ [] → HasBadShape bytes fault → HasBadShape (text ++ (bytes ++ more)) fault
bad_shape_more fault text bytes more none bad = subst (λ (t : List ℕ). HasBadShape (t ++ (bytes ++ more)) fault) (sym none) (bad_line fault bad.refused (record {
  rest = bad.line.rest ++ more;
  text = ap (λ (t : List ℕ). t ++ more) bad.line.text ∙ append_assoc (shape_line bad.capacity bad.modulus bad.width bad.batch bad.take_batch) bad.line.rest more;
  short_capacity = bad.line.short_capacity;
  short_modulus = bad.line.short_modulus;
  short_width = bad.line.short_width;
  short_batch = bad.line.short_batch;
  short_take_batch = bad.line.short_take_batch;
}))

-- the lines heard are too many for one more to be counted
pub too_many : (h : Option TraceHearing) (heard : TraceHearing) (text rest : List ℕ) → h ≡ Some heard → heard.count ≡ 2 ^ 64 - 1 → HasEnded h text → RefusesTraceText (text ++ rest) TooLong
too_many h heard text rest h1 h2 h3 = grind (arith, length-append, none-some, same_Some, text_bytes)

-- ---- one more line

pub shape_ends : (shape : Shape) → EndsAtFeed (shape_line (capacity_of shape) (modulus_of shape) (width_of shape) (batch_of shape) (take_batch_of shape))
shape_ends shape = grind (arith, (shape_line_ends (capacity_of shape) (modulus_of shape) (width_of shape) (batch_of shape) (take_batch_of shape) (omega (arith, shape.few_cells)) (omega (arith, shape.small_modulus)) (omega (arith, shape.few_digits)) (omega (arith, shape.few_cells, shape.small_batch)) (omega (arith, shape.few_cells, shape.small_take_batch))), shape.few_cells, shape.few_digits, shape.small_batch, shape.small_modulus, shape.small_take_batch)

pub event_ends : (shape : Shape) (e : Event) → belongs shape e.bit ≡ true → EndsAtFeed (event_line e)
event_ends shape e inside = (event_line_ends e (small_indices shape e.bit inside)).ends

pub first_ended : (h : Option TraceHearing) (hearing : TraceHearing) (shape : Shape) (text : List ℕ) → h ≡ None → HasEnded h text → HeardTrace hearing shape []
    → EndedLines hearing (text ++ shape_line (capacity_of shape) (modulus_of shape) (width_of shape) (batch_of shape) (take_batch_of shape))
first_ended None hearing shape text is ended heard =
    let line : List ℕ = shape_line (capacity_of shape) (modulus_of shape) (width_of shape) (batch_of shape) (take_batch_of shape) in
    record {
      shape = shape;
      events = [];
      is = record { text = ap (λ (t : List ℕ). t ++ line) ended ∙ sym (append-nil line); of_shape = All-nil _ };
      heard = heard;
    }
first_ended (Some before) hearing shape text is ended heard = absurd (none-some before (sym is))

pub next_ended : (h : Option TraceHearing) (before after : TraceHearing) (e : Event) (text : List ℕ) → h ≡ Some before → HasEnded h text → belongs before.shape e.bit ≡ true
    → ((shape : Shape) (events : List Event) → HeardTrace before shape events → HeardTrace after shape (events ++ e ∷ [])) → EndedLines after (text ++ event_line e)
next_ended None before after e text is ended inside heard = absurd (none-some before is)
next_ended (Some hearing) before after e text is ended inside heard =
    let same : before ≡ hearing = same_Some before hearing (sym is) in
    let shape : Shape = ended.shape in
    let line : List ℕ = shape_line (capacity_of shape) (modulus_of shape) (width_of shape) (batch_of shape) (take_batch_of shape) in
    record {
      shape = shape;
      events = ended.events ++ e ∷ [];
      is = grind (arith, flat_map_more, AreOfShape-push);
      heard = heard shape ended.events (subst (λ (x : TraceHearing). HeardTrace x shape ended.events) (sym same) ended.heard);
    }

-- ---- lines that were cut

-- what is kept of a line is too long for one
pub kept_refused : (fault : TraceFault) (h : Option TraceHearing) (before ended cut rest more : List ℕ) → before ≡ ended ++ cut → HasEnded h ended → HasNoFeed cut → HasNoFeed rest → 31 ≤ length cut + length rest
    → ((text others : List ℕ) → HasEnded h text → BeginsWithNoLine h others → (others ≡ [] → h ≡ None) → RefusesTraceText (text ++ others) fault) → RefusesTraceText (before ++ (rest ++ more)) fault
kept_refused fault h before ended cut rest more text lines none free long refuses =
    let all : length ((cut ++ rest) ++ more) ≡ (length cut + length rest) + length more = length-append (cut ++ rest) more ∙ ap (λ (n : ℕ). n + length more) (length-append cut rest) in
    let whole : ended ++ ((cut ++ rest) ++ more) ≡ before ++ (rest ++ more) = rw text (simp append_assoc) in
    subst (λ (t : List ℕ). RefusesTraceText t fault) whole
    (refuses ended ((cut ++ rest) ++ more) lines (no_line_long h (cut ++ rest) more (All-append (λ b. b ≢ 10) cut rest none free) (omega (arith, long, length-append cut rest)))
    (λ nothing. absurd (omega (arith, ap length nothing, all, long))))

-- a line that has ended was read to its end
pub whole_line : {R : Type 0} (found : Option R) (now : R → List ℕ) (old new : Option TraceHearing) (bytes front : List ℕ) → HasNoFeed front → bytes ≡ front ++ 10 ∷ []
    → MatchOption found (HasNoFeed bytes × (new ≡ old)) (λ rest. (line : List ℕ) × EndsAtFeed line × (bytes ≡ line ++ now rest) × ((text : List ℕ) → HasEnded old text → HasEnded new (text ++ line)))
    → (text : List ℕ) → HasEnded old text → HasEnded new (text ++ bytes)
whole_line None now old new bytes front free whole read text ended = absurd (feed_nowhere bytes front [] read.0 whole)
whole_line (Some rest) now old new bytes front free whole read text ended = grind (arith, append_assoc, feed_once)

-- bytes before and after the end of a line
pub behind_it : (before read rest piece more : List ℕ) → piece ≡ read ++ rest → (before ++ read) ++ (rest ++ more) ≡ before ++ (piece ++ more)
behind_it before read rest piece more parts = rw parts (simp append_assoc)

pub with_it : (before read rest piece : List ℕ) → piece ≡ read ++ rest → (before ++ read) ++ rest ≡ before ++ piece
with_it before read rest piece parts = rw parts (simp append_assoc)
