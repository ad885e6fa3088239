-- What a play by a near miss is: a lawful history, which the letters of its script make, its recorded calls, and the items taken. Each side
-- makes one call after the other; an event of it starts a call, continues it or ends it, and each start and end is recorded.
use Rattle.std.specs.Prelude.{◌≡◌, ◌⊎◌, ℕ, suc, ◌+◌, ◌-◌, ◌^◌, ◌<◌, ◌≤◌, min, Bool, true, false, ◌||◌, nat_lt, if◌then◌else◌, Option, Some, None, List, [], ◌∷◌, ◌++◌, length, bit_or}
use Rattle.bits_core.specs.declared.events.Act.{Act}
use Rattle.bits_core.specs.declared.events.Act.TheVariants.{ReadBegin, ReadEnd, WriteBegin, WriteEnd}
use Rattle.bits_core.specs.declared.events.Bit.{Bit}
use Rattle.bits_core.specs.declared.events.Bit.TheVariants.{Cell}
use Rattle.bits_core.specs.declared.events.Event.{Event}
use Rattle.bits_core.specs.declared.events.Side.{Side}
use Rattle.bits_core.specs.declared.events.Side.TheVariants.{P, C}
use Rattle.bits_core.specs.Lawful.{IsLawful}
use Rattle.bits_core.specs.Shape.{take_batch_of, width_of}
use Rattle.bits_core.specs.declared.shapes.Shape.{Shape}
use Rattle.ring_player.specs.Plays.{AreInTurn}
use Rattle.ring_player.specs.Tellings.{listed}
use Rattle.near_misses.specs.NearEnds.{IsToldByRead, IsToldByWrite}
use Rattle.near_misses.specs.declared.misses.NearMiss.{NearMiss}
use Rattle.queue_calls.specs.declared.events.CallEvent.{CallEvent}
use Rattle.queue_calls.specs.declared.events.CallEvent.TheVariants.{PutBegins, PutEnds, CloseBegins, CloseEnds, TakeBegins, TakeEnds}
use Rattle.queue_calls.specs.declared.events.Reply.TheVariants.{Passed, Lacked, Shut}
use Rattle.ring_script.specs.Content.{Content}

-- what a script requests, and from which near miss: a number of items, a number of takes, and a close, on a ring of this shape
pub record NearAsked : Type 0 where
  pub miss : NearMiss
  pub items : ℕ
  pub takes : ℕ
  pub closes : Bool
  pub shape : Shape

-- what this script requests of this near miss
abbrev pub asked_by_script : NearMiss → Content → NearAsked
asked_by_script miss script = record { miss = miss; items = length script.items; takes = script.takes; closes = script.closes; shape = script.shape }

-- The state of a side: whether it is in a call, and has stopped in it; how many items its puts have stored, or how many of the script's
-- takes its takes have used up; the items that the last take has read completely, and the digits read so far of the next; and whether its
-- close has ended, or a take returned Closed
pub record NearStand : Type 0 where
  pub in_call : Bool
  pub stopped : Bool
  pub count : ℕ
  pub read : List ℕ
  pub item : ℕ
  pub over : Bool

-- the state of a side that has made no event
abbrev pub near_start : NearStand
near_start = record { in_call = false; stopped = false; count = 0; read = []; item = 0; over = false }

-- how many items a take asks for when `used` takes are used up: as many as one count write may count, or as takes are left
abbrev pub near_wanted : NearAsked → ℕ → ℕ
near_wanted asked used = min (take_batch_of asked.shape) (asked.takes - used)

-- an event that begins an access: one of the call under way, or the first of a call, which is recorded
abbrev pub NearBegins : NearAsked → Side → NearStand → Option (CallEvent ℕ ℕ) → NearStand → Type 0
NearBegins asked s before None after = (before.in_call ≡ true) × (after ≡ before)
NearBegins asked P before (Some (PutBegins stored)) after =
    (before.in_call ≡ false) × (before.over ≡ false) × (stored ≡ before.count) × (stored < asked.items) × (after ≡ record before { in_call = true })
NearBegins asked P before (Some CloseBegins) after =
    (before.in_call ≡ false) × (before.over ≡ false) × (asked.items ≤ before.count) × (asked.closes ≡ true) × (after ≡ record before { in_call = true })
NearBegins asked C before (Some (TakeBegins wanted)) after =
    (before.in_call ≡ false) × (before.over ≡ false) × (1 ≤ wanted) × (wanted ≡ near_wanted asked before.count) ×
    (after ≡ record before { in_call = true; read = []; item = 0 })
NearBegins _ _ _ _ _ = ⊥

-- an event that ends an access: one of the call under way, or its last, which is recorded. A take uses up as many of the script's takes
-- as it took items, and one if it found the ring empty
abbrev pub NearEnds : NearAsked → Side → NearStand → Option (CallEvent ℕ ℕ) → NearStand → Type 0
NearEnds asked s before None after = (before.in_call ≡ true) × (after ≡ before)
NearEnds asked P before (Some (PutEnds (Passed count))) after =
    (before.in_call ≡ true) × (before.count + count ≤ asked.items) × (after ≡ record before { in_call = false; count = before.count + count })
NearEnds asked P before (Some (PutEnds Lacked)) after = (before.in_call ≡ true) × (after ≡ record before { in_call = false })
NearEnds asked P before (Some CloseEnds) after = (before.in_call ≡ true) × (after ≡ record before { in_call = false; over = true })
NearEnds asked C before (Some (TakeEnds (Passed taken))) after =
    (before.in_call ≡ true) × (taken ≡ length before.read) × (1 ≤ taken) × (taken ≤ near_wanted asked before.count) ×
    (after ≡ record before { in_call = false; count = before.count + taken })
NearEnds asked C before (Some (TakeEnds Lacked)) after = (before.in_call ≡ true) × (after ≡ record before { in_call = false; count = suc before.count })
NearEnds asked C before (Some (TakeEnds Shut)) after = (before.in_call ≡ true) × (after ≡ record before { in_call = false; over = true })
NearEnds _ _ _ _ _ = ⊥

-- an item with one more digit, if that was read as 1
abbrev pub with_digit : Bool → ℕ → ℕ → ℕ
with_digit true i item = (if nat_lt i 64 then bit_or item (2 ^ i) else item)
with_digit false i item = item

-- a take that has read one more digit: with the last digit of a cell an item is complete, and the next one begins
abbrev pub with_digit_read : (width : ℕ) → Bool → ℕ → NearStand → NearStand
with_digit_read width v i n =
    if nat_lt (suc i) width then record n { item = with_digit v i n.item }
    else record n { read = n.read ++ with_digit v i n.item ∷ []; item = 0 }

-- a side that has read a bit
abbrev pub with_read : NearAsked → Side → Bool → Bit → NearStand → NearStand
with_read asked C v (Cell j i) n = with_digit_read (width_of asked.shape) v i n
with_read asked s v b n = n

-- an event of a side, and what it records
abbrev pub NearStep : NearAsked → Side → NearStand → Act → Bit → Option (CallEvent ℕ ℕ) → NearStand → Type 0
NearStep asked s before ReadBegin b told after = NearBegins asked s before told after
NearStep asked s before (WriteBegin v) b told after = NearBegins asked s before told after
NearStep asked s before (ReadEnd v) b told after = NearEnds asked s (with_read asked s v b before) told after × IsToldByRead asked.miss b v told
NearStep asked s before WriteEnd b told after = NearEnds asked s before told after × IsToldByWrite asked.miss b told

-- the items of an event, for a take that has read these
abbrev pub items_told : Option (CallEvent ℕ ℕ) → List ℕ → List ℕ
items_told (Some (TakeEnds (Passed taken))) read = read
items_told _ read = []

-- a side has stopped, or may stop: in a call, for good, because it finds no count; otherwise if nothing more is requested of it
abbrev pub NearStops : NearAsked → Side → NearStand → Type 0
NearStops asked P before = (before.stopped ≡ true) ⊎ ((before.in_call ≡ true) ⊎ ((before.over ≡ true) ⊎ ((asked.items ≤ before.count) × (asked.closes ≡ false))))
NearStops asked C before = (before.stopped ≡ true) ⊎ ((before.in_call ≡ true) ⊎ ((before.over ≡ true) ⊎ (asked.takes ≤ before.count)))

-- the state of a side after it stops
abbrev pub near_stopped : NearStand → NearStand
near_stopped n = record n { stopped = n.stopped || n.in_call }

-- the states of both sides
pub record NearStands : Type 0 where
  pub putting : NearStand
  pub taking : NearStand

-- the states of both sides at the start
abbrev pub near_starts : NearStands
near_starts = record { putting = near_start; taking = near_start }

-- the state of one side
abbrev pub near_stand_of : Side → NearStands → NearStand
near_stand_of P n = n.putting
near_stand_of C n = n.taking

-- both states, with another one of one side
abbrev pub with_near_stand : Side → NearStand → NearStands → NearStands
with_near_stand P stand n = record n { putting = stand }
with_near_stand C stand n = record n { taking = stand }

-- letters make a history, with these recorded calls and these items taken: at each letter its side makes an event, or it stops or has
-- stopped
abbrev pub NearMakes : NearAsked → NearStands → List Side → List Event → List (CallEvent ℕ ℕ) → List ℕ → NearStands → Type 0
NearMakes asked n [] h told taken after = (h ≡ []) × (told ≡ []) × (taken ≡ []) × (after ≡ n)
NearMakes asked n (s ∷ letters) h told taken after =
    ((e : Event) × (later : List Event) × (t : Option (CallEvent ℕ ℕ)) × (others : List (CallEvent ℕ ℕ)) × (next : NearStand) × (further : List ℕ) × (h ≡ e ∷ later)
    × (told ≡ listed t ++ others) × (taken ≡ items_told t next.read ++ further) × (e.side ≡ s) × ((near_stand_of s n).stopped ≡ false)
    × NearStep asked s (near_stand_of s n) e.act e.bit t next × NearMakes asked (with_near_stand s next n) letters later others further after)
    ⊎ (NearStops asked s (near_stand_of s n) × NearMakes asked (with_near_stand s (near_stopped (near_stand_of s n)) n) letters h told taken after)

-- a play of these letters by this near miss
pub record IsNearPlay (miss : NearMiss) (script : Content) (letters : List Side) (h : List Event) (told : List (CallEvent ℕ ℕ)) (taken : List ℕ) : Type 0 where
  pub lawful : IsLawful script.shape h
  pub stands : NearStands
  pub made : NearMakes (asked_by_script miss script) near_starts letters h told taken stands
  pub answers : AreInTurn script.oracle h
