-- The positions of each side's calls, and of parts of them, among its own events, counted from 0.
use Rattle.std.specs.Prelude.{◌≡◌, ℕ, List, [], ◌∷◌, ◌++◌}
use Rattle.bits_core.specs.declared.events.Side.{Side}
use Rattle.bits_core.specs.declared.shapes.Shape.{Shape}
use Rattle.bits_core.specs.Made.{Made}
use Rattle.register_core.specs.Phrases.{scan_phrase, row_read_by}
use Rattle.ring_core.specs.Counts.{first_count}
use Rattle.ring_core.specs.Puts.{Put, Puts, stored_in, put_phrases}
use Rattle.ring_core.specs.Takes.{Take, Takes, taken_in, take_phrases}
use Rattle.ring_core.specs.Items.{events_in}
pub use Rattle.ring_core.specs.Puts.{stored_by}
pub use Rattle.ring_core.specs.Items.{taken_of, items_ended, puts_begun, puts_ended, takes_begun, takes_ended}

-- call x of some, after n items, has its side's own events from start up to stop: those are the numbers of events and items of the calls
-- before it
pub record IsCallAt {X : Type 0} (phrases : List X → List Made) (items : List X → ℕ) (calls : List X) (x : X) (n start stop : ℕ) : Type 0 where
  pub before : List X
  pub after : List X
  pub among : calls ≡ before ++ x ∷ after
  pub number : n ≡ items before
  pub starts : start ≡ events_in (phrases before)
  pub stops : stop ≡ events_in (phrases (before ++ x ∷ []))

-- this put has these of the producer's own events
abbrev pub IsPutAt : Shape → Puts → Put → (n start stop : ℕ) → Type 0
IsPutAt shape calls = IsCallAt (put_phrases shape first_count) (stored_in 0) calls.puts

-- this take has these of the consumer's own events
abbrev pub IsTakeAt : Shape → Takes → Take → (k start stop : ℕ) → Type 0
IsTakeAt shape calls = IsCallAt (take_phrases shape first_count) (taken_in 0) calls.takes

-- some of the accesses of a program, which have its side's own events from start on
abbrev pub IsPartAt : List Made → List Made → ℕ → Type 0
IsPartAt program part start = (before : List Made) × (after : List Made) × (program ≡ before ++ (part ++ after)) × (start ≡ events_in before)

-- how many events a scan that returns this number has
abbrev pub scan_events : Side → ℕ → ℕ
scan_events s seen = events_in (scan_phrase (row_read_by s) seen)
