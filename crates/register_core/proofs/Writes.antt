-- The events that begin a write of a bit, and their order with a read.
use Rattle.std.proofs.Common.{◌≡◌, ℕ, ◌<◌, Bool, List, Some, None, slice_get, if◌then◌else◌, ap, arith, ◌∙◌}
use Rattle.register_core.proofs.Common.{cases_lt, none-some, Side, Bit, Access, Event, Shape}
use Rattle.bits_core.specs.declared.events.Act.{Act}
use Rattle.bits_core.specs.declared.events.Act.TheVariants.{ReadBegin, ReadEnd, WriteBegin, WriteEnd}
use Rattle.bits_core.specs.declared.events.Access.TheVariants.{Write}
use Rattle.bits_core.specs.Bits.{writer, begun_access, begun_by, value_written, write_of}
use Rattle.bits_core.specs.Intervals.{IsAccess, IsRead, IsOpenAt}
use Rattle.bits_core.specs.Lawful.{TakesTurn, IsLawful}
use Rattle.bits_core.proofs.IntervalLemmas.{begins_write as doer-writes, value_written-from as written}
pub use Rattle.bits_core.proofs.Changes.{same_bit-true}
pub use Rattle.bits_core.proofs.IntervalLemmas.{same_bit-same}

-- the write of a bit that an event begins, as an access
pub write_of-from : (b : Bit) (e : Event) (v : Bool) → write_of b e ≡ Some v → begun_by e ≡ Some (Write b v)
write_of-from b e v is = written b (begun_by e) v is

pub write_of-to : (b : Bit) (e : Event) (v : Bool) → begun_by e ≡ Some (Write b v) → write_of b e ≡ Some v
write_of-to b e v is = ap (value_written b) is ∙ ap (λ t. if t then Some v else None) (same_bit-same b)

-- in a lawful history the writer of a bit begins its writes
pub by_writer : (shape : Shape) (h : List Event) → IsLawful shape h → (place : ℕ) (e : Event) → slice_get h place ≡ Some e → (b : Bit) (v : Bool) → begun_by e ≡ Some (Write b v) → e.side ≡ writer b
by_writer shape h lawful place e at b v begins = (lawful.each place e at).right_side.by_doer ∙ doer-writes b e.bit e.act v begins

none_open : (h : List Event) (place : ℕ) (s : Side) (b : Bit) (a : Act) (access : Access) → begun_access b a ≡ Some access → TakesTurn h place s b a → (other : Access) → ¬ IsOpenAt h s other place
none_open h place s b ReadBegin access begins turn = turn
none_open h place s b (ReadEnd v) access begins turn = absurd (none-some access begins)
none_open h place s b (WriteBegin v) access begins turn = turn
none_open h place s b WriteEnd access begins turn = absurd (none-some access begins)

-- a side has no access open when it begins one
pub begins_alone : (shape : Shape) (h : List Event) → IsLawful shape h → (place : ℕ) (e : Event) → slice_get h place ≡ Some e → (access : Access) → begun_by e ≡ Some access → (other : Access) → ¬ IsOpenAt h e.side other place
begins_alone shape h lawful place e at access begins = none_open h place e.side e.bit e.act access begins (lawful.each place e at).in_turn

-- an access that does not begin after the end of a read begins before it
pub begins_before : (h : List Event) (s : Side) (b : Bit) (start stop : ℕ) (v : Bool) → IsRead h s b start stop v → (t : Side) (access : Access) (start' stop' : ℕ) → IsAccess h t access start' stop' → ¬ (stop < start') → start' < stop
begins_before h s b start stop v read t access start' stop' a late = grind (arith, cases_lt, none-some, a.at_start, a.begins, a.event, read.ends)
