-- How a call of a near miss ends, and at which of its accesses.
use Rattle.std.specs.Prelude.{◌≡◌, ◌⊎◌, ℕ, ◌-◌, min, Bool, true, false, ◌&&◌, nat_le, nat_lt, if◌then◌else◌, Option, Some, None}
use Rattle.bits_core.specs.declared.events.Bit.{Bit}
use Rattle.bits_core.specs.declared.events.Bit.TheVariants.{S, R, X, Cell}
use Rattle.bits_core.specs.Shape.{batch_of, capacity_of}
use Rattle.bits_core.specs.declared.shapes.Shape.{Shape}
use Rattle.ring_core.specs.Counts.{distance}
use Rattle.queue_calls.specs.declared.events.CallEvent.{CallEvent}
use Rattle.queue_calls.specs.declared.events.CallEvent.TheVariants.{PutEnds, CloseEnds, TakeEnds}
use Rattle.queue_calls.specs.declared.events.Reply.TheVariants.{Passed, Lacked, Shut}
use Rattle.near_misses.specs.Misses.{near_modulus}
use Rattle.near_misses.specs.declared.misses.NearMiss.{NearMiss}
use Rattle.near_misses.specs.declared.misses.NearMiss.TheVariants.{CountBeforeCell, NoSecondScan}
use Rattle.near_misses.specs.declared.putting.Stage as put
use Rattle.near_misses.specs.declared.taking.Stage as taking

-- both counts are below the number at which they wrap
abbrev pub are_both_counts : NearMiss → Shape → (count seen : ℕ) → Bool
are_both_counts miss shape count seen = nat_lt seen (near_modulus miss shape) && nat_lt count (near_modulus miss shape)

-- a take scans the producer's count, for the first time or again, and n bits of it were read as 0
abbrev pub scan_stage : (again : Bool) → (zeros : ℕ) → taking.Stage
scan_stage true zeros = taking.TheVariants.ScanningAgain zeros
scan_stage false zeros = taking.TheVariants.Scanning zeros

-- how many items a consumer with this count sees when it scans this count of the producer: as many as that is ahead, if the ring holds that
-- many
abbrev pub items_seen : NearMiss → Shape → (count seen : ℕ) → ℕ
items_seen miss shape count seen = if are_both_counts miss shape count seen && nat_le (distance (near_modulus miss shape) seen count) (capacity_of shape) then distance (near_modulus miss shape) seen count else 0

-- how a take ends at the last read of a scan: Closed if it finds no item in its second scan
abbrev pub scan_told : (found : ℕ) → (again : Bool) → Option (CallEvent ℕ ℕ)
scan_told found again = if nat_lt 0 found then None else if again then Some (TakeEnds Shut) else None

-- and how it continues: with the items, or past its end, or with the close bit
abbrev pub stage_after_scan : (found : ℕ) → (again : Bool) → taking.Stage
stage_after_scan found again = if nat_lt 0 found then taking.TheVariants.Reading 0 else if again then taking.TheVariants.Over else taking.TheVariants.Looking

-- how a take that reads the close bit ends: Empty if that is 0, and Closed at once if that is 1 and there is no second scan
abbrev pub look_told : NearMiss → (closed : Bool) → Option (CallEvent ℕ ℕ)
look_told miss false = Some (TakeEnds Lacked)
look_told NoSecondScan true = Some (TakeEnds Shut)
look_told _ true = None

-- how many items a producer with this count has room for when it scans this count of the consumer, and may put at a time
abbrev pub room_seen : NearMiss → Shape → (count seen : ℕ) → ℕ
room_seen miss shape count seen = if are_both_counts miss shape count seen then min (capacity_of shape - distance (near_modulus miss shape) count seen) (batch_of shape) else 0

-- how a put ends once it has scanned: Full if it finds no room
abbrev pub room_told : (room : ℕ) → Option (CallEvent ℕ ℕ)
room_told room = if nat_lt 0 room then None else Some (PutEnds Lacked)

-- what a put that has found room continues with: with its count, or with its items
abbrev pub first_stage : NearMiss → put.Stage
first_stage CountBeforeCell = put.TheVariants.Counting
first_stage _ = put.TheVariants.Storing 0 0

-- how a put that has written its items ends: it has stored this many, if it wrote its count before
abbrev pub items_written_told : NearMiss → (storing : ℕ) → Option (CallEvent ℕ ℕ)
items_written_told CountBeforeCell storing = Some (PutEnds (Passed storing))
items_written_told _ storing = None

-- and how it ends when it has written its count
abbrev pub count_written_told : NearMiss → (storing : ℕ) → Option (CallEvent ℕ ℕ)
count_written_told CountBeforeCell storing = None
count_written_told _ storing = Some (PutEnds (Passed storing))

-- The end of a call with a read of a bit with this value: for the close bit, as above; a read of a count ends a call only
-- if it is 1, for a take that finds no item, or for a put that finds no room
abbrev pub IsToldByRead : NearMiss → Bit → Bool → Option (CallEvent ℕ ℕ) → Type 0
IsToldByRead miss X v told = told ≡ look_told miss v
IsToldByRead miss (S i) v told = (told ≡ None) ⊎ ((v ≡ true) × (told ≡ Some (TakeEnds Shut)))
IsToldByRead miss (R i) v told = (told ≡ None) ⊎ ((v ≡ true) × (told ≡ Some (PutEnds Lacked)))
IsToldByRead miss (Cell j i) v told = told ≡ None

-- and at the end of a write of a bit: the close with the close bit, items taken with a count, items stored with what the near miss writes last
abbrev pub IsToldByWrite : NearMiss → Bit → Option (CallEvent ℕ ℕ) → Type 0
IsToldByWrite miss X told = told ≡ Some CloseEnds
IsToldByWrite miss (S i) told = (told ≡ None) ⊎ ((stored : ℕ) × (told ≡ count_written_told miss stored))
IsToldByWrite miss (R i) told = (told ≡ None) ⊎ ((taken : ℕ) × (told ≡ Some (TakeEnds (Passed taken))))
IsToldByWrite miss (Cell j i) told = (told ≡ None) ⊎ ((stored : ℕ) × (told ≡ items_written_told miss stored))
