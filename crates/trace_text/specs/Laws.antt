-- The laws of trace text.
use Rattle.std.specs.Prelude.{◌≡◌, ◌≢◌, ℕ, ◌≤◌, ◌⊎◌, ◌↔◌, List, length}
use Rattle.bits_core.specs.declared.events.Event.{Event}
use Rattle.bits_core.specs.declared.shapes.Shape.{Shape}
use Rattle.trace_text.specs.declared.traces.TheConstants.{EVENT_LIMIT}
use Rattle.trace_text.specs.declared.faults.TraceFault.{TraceFault}
use Rattle.trace_text.specs.declared.faults.TraceFault.TheVariants.{TooLong}
use Rattle.trace_text.specs.Trace.{IsTrace, IsTraceFault, IsTraceText, RefusesTraceText}

-- a text has one reading
abbrev pub OneReading : Type 0
OneReading = (bytes : List ℕ) (s t : Shape) (es fs : List Event) → IsTrace bytes s es → IsTrace bytes t fs → (s ≡ t) × (es ≡ fs)

-- bytes with a fault are not a trace
abbrev pub FaultyIsNoTrace : Type 0
FaultyIsNoTrace = (bytes : List ℕ) (fault : TraceFault) (shape : Shape) (events : List Event) → IsTraceFault bytes fault → ¬ IsTrace bytes shape events

-- bytes are a trace or have a fault
abbrev pub TraceOrFault : Type 0
TraceOrFault = (bytes : List ℕ) → ((shape : Shape) × (events : List Event) × IsTrace bytes shape events) ⊎ ((fault : TraceFault) × IsTraceFault bytes fault)

-- and they have one fault
abbrev pub OneFault : Type 0
OneFault = (bytes : List ℕ) (f g : TraceFault) → IsTraceFault bytes f → IsTraceFault bytes g → f ≡ g

-- a trace is a trace of any length of no more events than it may have, and vice versa
abbrev pub TraceIsText : Type 0
TraceIsText = (bytes : List ℕ) (shape : Shape) (events : List Event) → IsTrace bytes shape events ↔ (IsTraceText bytes shape events × (length events ≤ EVENT_LIMIT))

-- a trace of any length has one reading too
abbrev pub OneTextReading : Type 0
OneTextReading = (bytes : List ℕ) (s t : Shape) (es fs : List Event) → IsTraceText bytes s es → IsTraceText bytes t fs → (s ≡ t) × (es ≡ fs)

-- and bytes that are refused as one are not one, unless they are too many
abbrev pub RefusedIsNoText : Type 0
RefusedIsNoText = (bytes : List ℕ) (fault : TraceFault) (shape : Shape) (events : List Event) → fault ≢ TooLong → RefusesTraceText bytes fault → ¬ IsTraceText bytes shape events
