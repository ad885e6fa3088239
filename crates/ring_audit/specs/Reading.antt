-- What the readers of both sides have read of a history.
use Rattle.std.specs.Prelude.{◌≡◌, ℕ, ◌<◌, ◌⊎◌, List, ◌++◌, length}
use Rattle.bits_core.specs.declared.events.Side.TheVariants.{P, C}
use Rattle.bits_core.specs.declared.events.Event.{Event}
use Rattle.bits_core.specs.declared.shapes.Shape.{Shape}
use Rattle.bits_core.specs.Made.{subhistory}
use Rattle.ring_audit.specs.Sides.{AreOfPuts, AreOfTakes}
use Rattle.ring_audit.specs.PutReading.{PutReading, PutsStand}
use Rattle.ring_audit.specs.TakeReading.{TakeReading, TakesStand}

-- both readers, the items stored and how many of them are counted, and the items taken
pub record Reading : Type 0 where
  pub puts : PutReading
  pub takes : TakeReading
  pub put : List ℕ
  pub counted : ℕ
  pub taken : List ℕ

-- what both readers have read, from its parts
abbrev pub reading : PutReading → TakeReading → ℕ → List ℕ → List ℕ → Reading
reading puts takes counted put taken = record { puts = puts; takes = takes; put = put; counted = counted; taken = taken }

-- both stand after their side's events
pub record ReadingStands (shape : Shape) (r : Reading) (h : List Event) : Type 0 where
  pub items : List ℕ
  pub stored : List ℕ
  pub puts_stand : PutsStand shape r.puts (subhistory P h) items stored
  pub takes_stand : TakesStand shape r.takes (subhistory C h) r.taken
  pub put_is : r.put ≡ items ++ stored
  pub counted_is : r.counted ≡ length items

-- they stand after these events, by which more was stored, or taken, than there is room for
pub record NeedsRoom (shape : Shape) (puts : PutReading) (takes : TakeReading) (counted put_room taken_room : ℕ) (h : List Event) : Type 0 where
  pub put : List ℕ
  pub taken : List ℕ
  pub stands : ReadingStands shape (reading puts takes counted put taken) h
  pub short : (put_room < length put) ⊎ (taken_room < length taken)

-- the events of both sides are a prefix of those of calls
abbrev pub BothFollow : Shape → List Event → Type 0
BothFollow shape h = AreOfPuts shape (subhistory P h) × AreOfTakes shape (subhistory C h)
