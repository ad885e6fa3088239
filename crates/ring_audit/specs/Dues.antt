-- Which events of a side continue the programs.
use Rattle.std.specs.Prelude.{◌≡◌, ◌≢◌, ◌⊎◌, ◌<◌, ℕ, Bool, if◌then◌else◌, Option, Some, List, [], ◌∷◌, ◌++◌}
use Rattle.bits_core.specs.declared.events.Bit.{Bit}
use Rattle.bits_core.specs.declared.events.Bit.TheVariants.{S, R, X, Cell}
use Rattle.bits_core.specs.declared.events.Act.{Act}
use Rattle.bits_core.specs.declared.events.Act.TheVariants.{ReadBegin, ReadEnd, WriteBegin, WriteEnd}
use Rattle.bits_core.specs.declared.events.Event.{Event}
use Rattle.bits_core.specs.declared.shapes.Shape.{Shape}
use Rattle.ring_audit.specs.declared.choices.Dues.{Dues}
use Rattle.ring_audit.specs.PutReading.{PutReading}
use Rattle.ring_audit.specs.TakeReading.{TakeReading}
use Rattle.ring_audit.specs.Reading.{ReadingStands, BothFollow, reading}

-- the event continues the programs after these
abbrev pub GoesOnBehind : Shape → List Event → Event → Type 0
GoesOnBehind shape h e = BothFollow shape (h ++ e ∷ [])

-- the event is one of these
abbrev pub IsDueOf : Dues → Event → Type 0
IsDueOf dues e = (dues.first ≡ Some e) ⊎ (dues.second ≡ Some e) ⊎ (dues.third ≡ Some e)

-- the event is none of these
abbrev pub IsNoneOf : Dues → Event → Type 0
IsNoneOf dues e = (dues.first ≢ Some e) × (dues.second ≢ Some e) × (dues.third ≢ Some e)

-- the rank of an act among those that are due with it: the write of a digit 0, of a digit 1, of another bit
abbrev pub write_rank : Bit → Bool → ℕ
write_rank (Cell j i) v = if v then 1 else 0
write_rank (S i) v = 2
write_rank (R i) v = 2
write_rank X v = 2

-- and the answer 0 before the answer 1, and a scan's start before a write's
abbrev pub act_rank : Bit → Act → ℕ
act_rank b ReadBegin = 0
act_rank b (ReadEnd v) = if v then 1 else 0
act_rank b (WriteBegin v) = write_rank b v
act_rank b WriteEnd = 0

-- So the answer 0 comes before the answer 1, a scan before the close, a word's digit 0 before its digit 1 and both before the count,
-- and a word's read before the count.
abbrev pub ComesBefore : Event → Event → Type 0
ComesBefore e f = act_rank e.bit e.act < act_rank f.bit f.act

-- if both are there, the first comes before the second
abbrev pub ComeInOrder : Option Event → Option Event → Type 0
ComeInOrder one other = (e f : Event) → one ≡ Some e → other ≡ Some f → ComesBefore e f

-- the events come in their order, and none twice
abbrev pub AreInOrder : Dues → Type 0
AreInOrder dues = ComeInOrder dues.first dues.second × ComeInOrder dues.first dues.third × ComeInOrder dues.second dues.third

-- both readers stand after these events, whatever items they read
pub record BothStand (shape : Shape) (puts : PutReading) (takes : TakeReading) (h : List Event) : Type 0 where
  pub counted : ℕ
  pub put : List ℕ
  pub taken : List ℕ
  pub stands : ReadingStands shape (reading puts takes counted put taken) h
