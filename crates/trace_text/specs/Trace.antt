-- Which bytes are a trace, and why others are not.
use Rattle.std.specs.Prelude.{◌≡◌, ◌≢◌, ◌⊎◌, ℕ, ◌+◌, ◌-◌, ◌^◌, ◌<◌, ◌≤◌, true, List, [], ◌∷◌, ◌++◌, length}
use Rattle.trace_text.specs.declared.traces.TheConstants.{EVENT_LIMIT}
use Rattle.bits_core.specs.declared.events.Event.{Event}
use Rattle.bits_core.specs.declared.shapes.Shape.{Shape}
use Rattle.bits_core.specs.declared.faults.ShapeFault.{ShapeFault}
use Rattle.trace_text.specs.declared.faults.TraceFault.{TraceFault}
use Rattle.trace_text.specs.declared.faults.TraceFault.TheVariants.{BadShape, BadLine, TooLong, OutOfMemory}
use Rattle.bits_core.specs.Shape.{AreOfShape, IsRefusedBatches, batch_of, belongs, capacity_of, modulus_of, take_batch_of, width_of}
use Rattle.trace_text.specs.TraceText.{event_line, shape_line, trace_text}

-- the bytes are the text of the shape and of the events, which are of the shape and no more than a trace may have
pub record IsTrace (bytes : List ℕ) (shape : Shape) (events : List Event) : Type 0 where
  pub text : bytes ≡ trace_text shape events
  pub of_shape : AreOfShape shape events
  pub within : length events ≤ EVENT_LIMIT

-- the bytes are the text of the shape and of the events, which are of the shape: a trace of any length
pub record IsTraceText (bytes : List ℕ) (shape : Shape) (events : List Event) : Type 0 where
  pub text : bytes ≡ trace_text shape events
  pub of_shape : AreOfShape shape events

-- the bytes begin with a line of three numbers, or of four or five of which the last is not 1, of at most four digits each
pub record HasShapeLine (bytes : List ℕ) (capacity modulus width batch take_batch : ℕ) : Type 0 where
  pub rest : List ℕ
  pub text : bytes ≡ shape_line capacity modulus width batch take_batch ++ rest
  pub short_capacity : capacity < 10000
  pub short_modulus : modulus < 10000
  pub short_width : width < 10000
  pub short_batch : batch < 10000
  pub short_take_batch : take_batch < 10000

-- line 1 has numbers that are refused as a shape
pub record HasBadShape (bytes : List ℕ) (fault : ShapeFault) : Type 0 where
  pub capacity : ℕ
  pub modulus : ℕ
  pub width : ℕ
  pub batch : ℕ
  pub take_batch : ℕ
  pub line : HasShapeLine bytes capacity modulus width batch take_batch
  pub refused : IsRefusedBatches capacity modulus width batch take_batch fault

-- the bytes begin with the line of the shape
abbrev pub BeginsWithShape : List ℕ → Shape → List ℕ → Type 0
BeginsWithShape bytes shape rest = bytes ≡ shape_line (capacity_of shape) (modulus_of shape) (width_of shape) (batch_of shape) (take_batch_of shape) ++ rest

-- the bytes begin with the line of an event of the shape
abbrev pub BeginsWithEvent : Shape → List ℕ → Event → List ℕ → Type 0
BeginsWithEvent shape bytes e rest = (belongs shape e.bit ≡ true) × (bytes ≡ event_line e ++ rest)

-- they begin with no such line
abbrev pub HasNoEvent : Shape → List ℕ → Type 0
HasNoEvent shape bytes = (e : Event) (rest : List ℕ) → ¬ BeginsWithEvent shape bytes e rest

-- the bytes are the text of a shape and of events of it, and then something more
pub record IsTraceAndMore (bytes : List ℕ) (shape : Shape) (events : List Event) (rest : List ℕ) : Type 0 where
  pub text : bytes ≡ trace_text shape events ++ rest
  pub of_shape : AreOfShape shape events
  pub more : rest ≢ []

-- these events are followed by the line of another one, and with it are no more than a trace may have
pub record HasMore (bytes : List ℕ) (events : List Event) : Type 0 where
  pub shape : Shape
  pub next : Event
  pub rest : List ℕ
  pub text : bytes ≡ trace_text shape (events ++ next ∷ []) ++ rest
  pub of_shape : AreOfShape shape (events ++ next ∷ [])
  pub within : length (events ++ next ∷ []) ≤ EVENT_LIMIT

-- the bytes begin with a trace of more events than `count`, whatever follows
pub record BeginsWithMore (bytes : List ℕ) (count : ℕ) : Type 0 where
  pub first : List ℕ
  pub rest : List ℕ
  pub shape : Shape
  pub events : List Event
  pub parts : bytes ≡ first ++ rest
  pub is_trace : IsTrace first shape events
  pub more : count < length events

-- as many events as a trace may have are followed by something more
pub record IsTooLong (bytes : List ℕ) : Type 0 where
  pub shape : Shape
  pub events : List Event
  pub rest : List ℕ
  pub goes_on : IsTraceAndMore bytes shape events rest
  pub full : length events ≡ EVENT_LIMIT

-- fewer events than that are followed by something that does not begin with the line of an event
pub record HasBadLine (bytes : List ℕ) (line : ℕ) : Type 0 where
  pub shape : Shape
  pub events : List Event
  pub rest : List ℕ
  pub goes_on : IsTraceAndMore bytes shape events rest
  pub room : length events < EVENT_LIMIT
  pub no_event : HasNoEvent shape rest
  pub number : line ≡ length events + 2

-- the first fault of the bytes, line by line; out of memory is not one of them
abbrev pub IsTraceFault : List ℕ → TraceFault → Type 0
IsTraceFault bytes (BadShape fault) = HasBadShape bytes fault
IsTraceFault bytes (BadLine line) = ((line ≡ 1) × ((capacity modulus width batch take_batch : ℕ) → ¬ HasShapeLine bytes capacity modulus width batch take_batch)) ⊎ HasBadLine bytes line
IsTraceFault bytes TooLong = IsTooLong bytes
IsTraceFault bytes OutOfMemory = ⊥

-- events are followed by something that does not begin with the line of an event
pub record HasBadEventLine (bytes : List ℕ) (line : ℕ) : Type 0 where
  pub shape : Shape
  pub events : List Event
  pub rest : List ℕ
  pub goes_on : IsTraceAndMore bytes shape events rest
  pub no_event : HasNoEvent shape rest
  pub number : line ≡ length events + 2

-- why bytes are not a trace of any length that is read to its end: the first fault, line by line; or that there are too many bytes for
-- their lines to be counted
abbrev pub RefusesTraceText : List ℕ → TraceFault → Type 0
RefusesTraceText bytes (BadShape fault) = HasBadShape bytes fault
RefusesTraceText bytes (BadLine line) = ((line ≡ 1) × ((capacity modulus width batch take_batch : ℕ) → ¬ HasShapeLine bytes capacity modulus width batch take_batch)) ⊎ HasBadEventLine bytes line
RefusesTraceText bytes TooLong = 2 ^ 64 - 1 ≤ length bytes
RefusesTraceText bytes OutOfMemory = ⊥
