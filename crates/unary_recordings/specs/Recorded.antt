-- Recordings of unary writes and scans of a count, as writes and reads of one register.
use Rattle.std.specs.Prelude.{◌≡◌, ℕ, ◌<◌, ◌≤◌, Some, List, [], ◌∷◌, length, take, slice_get}
use Rattle.bits_core.specs.declared.events.Side.{Side}
use Rattle.bits_core.specs.declared.events.Event.{Event}
use Rattle.bits_core.specs.declared.shapes.Shape.{Shape}
use Rattle.bits_core.specs.Lawful.{IsLawful}
use Rattle.register_core.specs.Unary.{writes_of}
use Rattle.register_core.specs.UnaryLaw.{IsScan, WritesUnary, count_begun, count_ended}
use Rattle.register_calls.specs.declared.events.Register.{Register}
use Rattle.register_calls.specs.declared.events.RegisterEvent.{RegisterEvent}
use Rattle.register_calls.specs.declared.events.RegisterEvent.TheVariants.{WriteBegins, WriteEnds, ReadBegins, ReadEnds}
use Rattle.register_calls.specs.Histories.{started, before_read, IsWellFormed}
use Rattle.register_calls.specs.Classes.{IsRegular}

-- how many bit writes the first unary writes of these values have, up to a count
abbrev pub bit_writes_of : (values : List ℕ) → (count : ℕ) → ℕ
bit_writes_of values count = length (writes_of (take count values))

-- What an event records that comes after these: a write that begins is the next one, with its value; for one that ends, all bit writes
-- have ended; a read that ends returned the value of a scan that began after the read began, and that had ended.
abbrev pub IsRecorded : (s : Side) (h : List Event) (values : List ℕ) (at : ℕ → ℕ) → List RegisterEvent → RegisterEvent → Type 0
IsRecorded s h values at before (WriteBegins v) = slice_get values (started before) ≡ Some v
IsRecorded s h values at before WriteEnds = bit_writes_of values (started before) ≤ length (count_ended s (take (at (length before)) h))
IsRecorded s h values at before (ReadBegins i) = Unit {0}
IsRecorded s h values at before (ReadEnds i v) =
    (start : ℕ → ℕ) × (stop : ℕ → ℕ) × IsScan s h v start stop × (at (length (before_read i before)) ≤ start 0) × (stop v < at (length before))

-- The writes and reads of the count of a side, recorded: `at` has, for each event by its place, how many events of the bits had come. No
-- bit write begins before its write is recorded to have begun.
abbrev pub AreRecorded : (s : Side) (h : List Event) (values : List ℕ) (at : ℕ → ℕ) → List RegisterEvent → Type 0
AreRecorded s h values at [] = Unit {0}
AreRecorded s h values at (e ∷ before) =
    AreRecorded s h values at before × IsRecorded s h values at before e × (length (count_begun s (take (at (length before)) h)) ≤ bit_writes_of values (started before))

-- the events of a recording come in the order of those of the bits
abbrev pub NeverFalls : (ℕ → ℕ) → Type 0
NeverFalls at = (m n : ℕ) → m ≤ n → at m ≤ at n

-- A unary register is regular, whatever is written to it: all well-formed recordings of its writes and scans are regular.
abbrev pub RecordedUnaryIsRegular : Type 0
RecordedUnaryIsRegular =
    (shape : Shape) (h : List Event) → IsLawful shape h →
    (s : Side) (values : List ℕ) → WritesUnary s h values →
    (r : Register) → r.first ≡ 0 → (at : ℕ → ℕ) → NeverFalls at →
    (recording : List RegisterEvent) → IsWellFormed r recording → AreRecorded s h values at recording →
    IsRegular r.first recording
