-- What a witness of a history remembers.
use Rattle.std.specs.Prelude.{◌≡◌, ℕ, suc, ◌-◌, ◌==◌, Bool, false, List, [], ◌∷◌, ◌++◌, Option, Some, None, if◌then◌else◌, is_some, find, map, length, reverse, take}
use Rattle.queue_calls.specs.Queue.{Capacity}
use Rattle.queue_calls.specs.Calls.{Event, IsLinearizable}
use Rattle.queue_calls.specs.Counting.{CountTo, kept}
use Rattle.queue_calls.specs.InTurn.{CallsAreInTurn}
use Rattle.queue_calls.specs.Reasons.{before_put, before_stored, coming, ended_line, has_ended, has_told, items_of, last_of, last_taken, line_behind, stored_at, taken, told_closed_line}
use Rattle.queue_calls.specs.Noting.{OutgrowsLists}
use Rattle.queue_calls.specs.State.{IsProper}
use Rattle.queue_calls.specs.Told.{meant}
use Rattle.call_causes.specs.declared.entries.Offered.{Offered}
use Rattle.call_causes.specs.declared.entries.Taken.{Taken}
use Rattle.queue_calls.specs.declared.faults.Fault.{Fault}
use Rattle.queue_calls.specs.declared.faults.Fault.TheVariants.{OutOfTurn, NotLinearizable, OutOfMemory}
use Rattle.queue_calls.specs.declared.turns.PutTurn.TheVariants.{Free}
use Rattle.queue_calls.specs.declared.turns.TakeTurn.TheVariants.{Rests}
use Rattle.queue_calls.specs.declared.witnesses.Witness.{Witness}

-- what is kept of a history: the state after counting its events one after the other; what comes next; the last `limit` items
-- taken, and the last one in any case; and the lines that a cause reports
pub record Remembers {S O T N B : Type 0} (offered : O → List Offered) (last : T → List Taken) (w : Witness S O T N B) (capacity : Capacity) (events : List Event) : Type 0 where
  pub proper : IsProper capacity
  pub capacity_is : meant w.auditor.capacity ≡ capacity
  pub counted : CountTo capacity (kept [] Free Rests false) events (kept (items_of (offered w.auditor.inside.list)) w.auditor.put w.auditor.take w.auditor.shut)
  pub inside : offered w.auditor.inside.list ≡ coming (reverse events)
  pub taken : last w.taken ≡ last_of w.limit (taken (reverse events))
  pub taken_last : w.last_taken ≡ last_taken (reverse events)
  pub ended : w.ended_at ≡ (if has_ended (reverse events) then Some (ended_line (reverse events)) else None)
  pub told : w.told_at ≡ (if has_told (reverse events) then Some (told_closed_line (reverse events)) else None)
  pub put_at : w.put_at ≡ line_behind (before_put (reverse events))
  pub stored_at : w.stored_at ≡ line_behind (before_stored (reverse events))

-- what a refusal implies about an event after those remembered, if the lists have room for this many
abbrev pub RefusesNext : {S O T N B : Type 0} → (offered : O → List Offered) → (last : T → List Taken) → (offered_room taken_room : ℕ) → Witness S O T N B → Capacity → List Event → Event → Fault → Type 0
RefusesNext offered last o t w capacity events event OutOfTurn =
    Remembers offered last w capacity events × ¬ CallsAreInTurn (events ++ event ∷ []) × ¬ IsLinearizable capacity (events ++ event ∷ [])
RefusesNext offered last o t w capacity events event NotLinearizable =
    Remembers offered last w capacity events × CallsAreInTurn (events ++ event ∷ []) × ¬ IsLinearizable capacity (events ++ event ∷ [])
RefusesNext offered last o t w capacity events event OutOfMemory = OutgrowsLists w.limit o t capacity (events ++ event ∷ [])

-- the last `count` entries, as this line stores them
abbrev pub mark_last : (line count : ℕ) → List Offered → List Offered
mark_last line count entries = take (length entries - count) entries ++ map (stored_at line) (last_of count entries)

-- how many of the first items are the next ones
abbrev pub agreed : List ℕ → List Offered → ℕ
agreed [] rest = 0
agreed (item ∷ items) [] = 0
agreed (item ∷ items) (next ∷ rest) = if next.item == item then suc (agreed items rest) else 0

-- an item is to come
abbrev pub comes : ℕ → List Offered → Bool
comes item rest = is_some (find (λ o. o.item == item) rest)

-- the last take of an item among those taken, if there is one
abbrev pub last_taken_of : ℕ → List Taken → Option Taken
last_taken_of item all = find (λ t. t.item == item) (reverse all)
