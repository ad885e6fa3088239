-- What contradicts the event at which a history stops being linearizable: the first that applies. A past is the list of the events
-- before an event, the last one first.
use Rattle.std.specs.Prelude.{◌≡◌, ℕ, suc, ◌+◌, ◌-◌, Bool, true, false, ◌&&◌, not, ◌==◌, nat_lt, nat_le, if◌then◌else◌, Option, Some, None, List, [], ◌∷◌, ◌++◌, map, length, take, drop, reverse, get_or, is_some, find}
use Rattle.queue_calls.specs.Queue.{Capacity, Unbounded, Between}
use Rattle.queue_calls.specs.Calls.{Event, PutBegin, PutEnd, CloseBegin, CloseEnd, TakeBegin, TakeEnd, Passed, Lacked, Short, Nothing, Shut, passed, IsLinearizable}
use Rattle.queue_calls.specs.InTurn.{CallsAreInTurn}
use Rattle.queue_calls.specs.State.{IsProper}
use Rattle.call_causes.specs.declared.entries.Offered.{Offered}
use Rattle.call_causes.specs.declared.entries.Taken.{Taken}
use Rattle.call_causes.specs.declared.causes.Cause.{Cause}
use Rattle.call_causes.specs.declared.causes.Cause.TheVariants.{StoredAfterClose, OnlySomeStored, StoredTooMany, OnlySomeWithRoom, FullWithRoom, FullAfterClose, NotStoredButTaken, ShortWithRoom, ClosedWithoutClose, ItemAfterTold, NotNext, ComesAgain, NotInside, NoMoreWhileInside, NotTaken, EmptyAfterTold, EmptyWhileInside, EmptyAfterClose, ShortAfterTold, ShortWhileInside, ShortAfterClose, ClosedBeforeClose, ClosedWhileInside}

-- ---- what a past says

-- the line of the event after it
abbrev pub line_behind : List Event → ℕ
line_behind past = length past + 2

-- whether a close has begun
abbrev pub has_begun : List Event → Bool
has_begun [] = false
has_begun (CloseBegin ∷ past) = true
has_begun (_ ∷ past) = has_begun past

-- whether a close has ended
abbrev pub has_ended : List Event → Bool
has_ended [] = false
has_ended (CloseEnd ∷ past) = true
has_ended (_ ∷ past) = has_ended past

-- whether a take has returned Closed
abbrev pub has_told : List Event → Bool
has_told [] = false
has_told (TakeEnd Shut ∷ past) = true
has_told (_ ∷ past) = has_told past

-- the line of the first close that ended
abbrev pub ended_line : List Event → ℕ
ended_line [] = 0
ended_line (CloseEnd ∷ past) = if has_ended past then ended_line past else line_behind past
ended_line (_ ∷ past) = ended_line past

-- the line of the first take that returned Closed
abbrev pub told_closed_line : List Event → ℕ
told_closed_line [] = 0
told_closed_line (TakeEnd Shut ∷ past) = if has_told past then told_closed_line past else line_behind past
told_closed_line (_ ∷ past) = told_closed_line past

-- the events before the last put that began
abbrev pub before_put : List Event → List Event
before_put [] = []
before_put (PutBegin items ∷ past) = past
before_put (_ ∷ past) = before_put past

-- the events before the last take that began
abbrev pub before_take : List Event → List Event
before_take [] = []
before_take (TakeBegin wanted ∷ past) = past
before_take (_ ∷ past) = before_take past

-- the events before the last end of a put that stored items
abbrev pub before_stored : List Event → List Event
before_stored [] = []
before_stored (PutEnd (Passed count why) ∷ past) = past
before_stored (_ ∷ past) = before_stored past

-- an item that this line offers
abbrev pub offered_at : ℕ → ℕ → Offered
offered_at line item = record { item = item; offered_at = line; stored_at = 0 }

-- the entry of an item, as this line stores it
abbrev pub stored_at : ℕ → Offered → Offered
stored_at line o = record { item = o.item; offered_at = o.offered_at; stored_at = line }

-- the entry of an item that this line takes
abbrev pub taken_at : ℕ → ℕ → Taken
taken_at line item = record { item = item; taken_at = line }

-- the items of entries
abbrev pub items_of : List Offered → List ℕ
items_of entries = map (λ o. o.item) entries

-- what the put under way offers; nothing if a close had ended before it
abbrev pub offers : List Event → List Offered
offers [] = []
offers (PutBegin items ∷ past) = if has_ended past then [] else map (offered_at (line_behind past)) items
offers (PutEnd reply ∷ past) = []
offers (_ ∷ past) = offers past

-- what puts that have ended stored, in order
abbrev pub stored : List Event → List Offered
stored [] = []
stored (PutEnd reply ∷ past) = stored past ++ map (stored_at (line_behind past)) (take (passed 0 reply) (offers past))
stored (_ ∷ past) = stored past

-- what takes that have ended took, in order
abbrev pub taken : List Event → List Taken
taken [] = []
taken (TakeEnd reply ∷ past) = taken past ++ map (taken_at (line_behind past)) (passed [] reply)
taken (_ ∷ past) = taken past

-- how many items the take under way asks for; 0 if none is under way
abbrev pub wanted : List Event → ℕ
wanted [] = 0
wanted (TakeBegin count ∷ past) = count
wanted (TakeEnd reply ∷ past) = 0
wanted (_ ∷ past) = wanted past

-- N: how many items were stored
abbrev pub n_of : List Event → ℕ
n_of past = length (stored past)

-- K: how many items were taken
abbrev pub k_of : List Event → ℕ
k_of past = length (taken past)

-- what comes next: what is inside, then what is offered
abbrev pub coming : List Event → List Offered
coming past = drop (k_of past) (stored past ++ offers past)

-- the entry at this place
abbrev pub at : List Offered → ℕ → Offered
at entries place = get_or entries place (offered_at 0 0)

-- the last of these entries; if there is none, item 0 of line 0
abbrev pub last_in : List Taken → Taken
last_in all = get_or all (length all - 1) (taken_at 0 0)

-- the item taken last
abbrev pub last_taken : List Event → Taken
last_taken past = last_in (taken past)

-- the last `count` of a list
abbrev pub last_of : {A : Type 0} → ℕ → List A → List A
last_of count xs = drop (length xs - count) xs

-- ---- what a queue can be

-- it can hold this many items
abbrev pub can_hold : Capacity → ℕ → Bool
can_hold Unbounded inside = true
can_hold (Between full most) inside = nat_le inside most

-- with this many inside it may report that it has no room for `count` more
abbrev pub can_lack : Capacity → (inside count : ℕ) → Bool
can_lack Unbounded inside count = false
can_lack (Between full most) inside count = nat_lt full (inside + count)

-- ---- what contradicts an event after a past

-- for a put that stored `count` items
abbrev pub stored_cause : Capacity → ℕ → Bool → List Event → Option Cause
stored_cause capacity count why past =
    let inside : ℕ = n_of past - k_of (before_put past) in
    let least : ℕ = (n_of past + count) - (k_of past + wanted past) in
    if has_ended (before_put past) then Some (StoredAfterClose (ended_line past)) else
    if nat_lt (n_of past + count) (k_of past) then Some (OnlySomeStored count (last_taken past)) else
    if not (can_hold capacity least) then Some (StoredTooMany least) else
    if why && (nat_lt count (length (offers past)) && not (can_lack capacity inside (suc count))) then Some (OnlySomeWithRoom count inside (line_behind (before_put past))) else
    None

-- for a put that ended full
abbrev pub full_cause : Capacity → List Event → Option Cause
full_cause capacity past =
    let inside : ℕ = n_of past - k_of (before_put past) in
    if has_ended (before_put past) then Some (FullAfterClose (ended_line past)) else
    if nat_lt (n_of past) (k_of past) then Some (NotStoredButTaken (last_taken past)) else
    if not (can_lack capacity inside 1) then Some (FullWithRoom inside (line_behind (before_put past))) else
    None

-- for a put that ended short
abbrev pub put_short_cause : Capacity → List Event → Option Cause
put_short_cause capacity past =
    let inside : ℕ = n_of past - k_of (before_put past) in
    let offered : ℕ = length (offers past) in
    if has_ended (before_put past) then Some (ShortAfterClose (ended_line past)) else
    if nat_lt (n_of past) (k_of past) then Some (NotStoredButTaken (last_taken past)) else
    if not (can_lack capacity inside offered) then Some (ShortWithRoom offered inside (line_behind (before_put past))) else
    None

-- for a take that took `count` items
abbrev pub not_taken_cause : Capacity → ℕ → List Event → Option Cause
not_taken_cause capacity count past =
    let least : ℕ = n_of past - (k_of past + count) in
    if can_hold capacity least then None else Some (NotTaken least (line_behind (before_stored past)))

-- for a take that took the next `count` items, and says why it took no more if `why` is true
abbrev pub fewer_cause : Capacity → ℕ → Bool → List Event → Option Cause
fewer_cause capacity count why past =
    if why && (nat_lt count (wanted past) && nat_lt (k_of past + count) (n_of (before_take past))) then Some (NoMoreWhileInside (at (coming past) count)) else
    not_taken_cause capacity count past

-- for one that took an item that does not come any more, after others, if this is next
abbrev pub again_cause : List Event → ℕ → Option Taken → Option Offered → Cause
again_cause past item (Some t) next = ComesAgain t next
again_cause past item None next = NotInside item next

-- which is searched in the line, and among the last `limit` taken
abbrev pub gone_cause : (limit : ℕ) → List Event → List ℕ → ℕ → Option Offered → Cause
gone_cause limit past first item next =
    again_cause past item (find (λ t. t.item == item) (map (taken_at (line_behind past)) first ++ reverse (last_of limit (taken past)))) next

-- for one that took these items after others, the next ones, if these are next
abbrev pub items_cause : (limit : ℕ) → Capacity → Bool → List Event → (first items : List ℕ) → (rest : List Offered) → Option Cause
items_cause limit capacity why past first [] rest = fewer_cause capacity (length first) why past
items_cause limit capacity why past first (item ∷ items) [] = Some (gone_cause limit past first item None)
items_cause limit capacity why past first (item ∷ items) (next ∷ rest) =
    if next.item == item then items_cause limit capacity why past (first ++ item ∷ []) items rest else
    if is_some (find (λ o. o.item == item) rest) then Some (NotNext item next) else
    Some (gone_cause limit past first item (Some next))

-- for a take that ended empty
abbrev pub empty_cause : Capacity → List Event → Option Cause
empty_cause capacity past =
    if has_told past then Some (EmptyAfterTold (told_closed_line past)) else
    if nat_lt (k_of past) (n_of (before_take past)) then Some (EmptyWhileInside (at (coming past) 0)) else
    if has_ended (before_take past) then Some (EmptyAfterClose (ended_line past)) else
    not_taken_cause capacity 0 past

-- for a take that ended short
abbrev pub take_short_cause : Capacity → List Event → Option Cause
take_short_cause capacity past =
    let last : ℕ = wanted past - 1 in
    if has_told past then Some (ShortAfterTold (told_closed_line past)) else
    if nat_lt (k_of past + last) (n_of (before_take past)) then Some (ShortWhileInside (at (coming past) last)) else
    if has_ended (before_take past) && (n_of past == k_of past) then Some (ShortAfterClose (ended_line past)) else
    not_taken_cause capacity 0 past

-- for a take that returned Closed, if these entries are still to come
abbrev pub closed_cause : List Offered → Option Cause
closed_cause [] = None
closed_cause (next ∷ rest) = Some (ClosedWhileInside next)

-- what contradicts this event after a past, if anything does
abbrev pub cause_of : (limit : ℕ) → Capacity → Event → List Event → Option Cause
cause_of limit capacity (PutEnd (Passed count why)) past = stored_cause capacity count why past
cause_of limit capacity (PutEnd Lacked) past = full_cause capacity past
cause_of limit capacity (PutEnd Short) past = put_short_cause capacity past
cause_of limit capacity (PutEnd Nothing) past = if nat_lt (n_of past) (k_of past) then Some (NotStoredButTaken (last_taken past)) else None
cause_of limit capacity (PutEnd Shut) past = if has_ended (before_put past) then None else Some ClosedWithoutClose
cause_of limit capacity (TakeEnd (Passed items why)) past = if has_told past then Some (ItemAfterTold (told_closed_line past)) else items_cause limit capacity why past [] items (coming past)
cause_of limit capacity (TakeEnd Lacked) past = empty_cause capacity past
cause_of limit capacity (TakeEnd Short) past = take_short_cause capacity past
cause_of limit capacity (TakeEnd Nothing) past = not_taken_cause capacity 0 past
cause_of limit capacity (TakeEnd Shut) past = if has_begun past then closed_cause (coming past) else Some ClosedBeforeClose
cause_of limit capacity _ past = None

-- this contradicts an event after others, if the last `limit` items taken are searched
abbrev pub IsCause : (limit : ℕ) → Capacity → List Event → Event → Cause → Type 0
IsCause limit capacity before event cause = cause_of limit capacity event (reverse before) ≡ Some cause

-- a cause is a reason, whatever the limit: the history with the event that it contradicts is not linearizable
abbrev pub CauseIsReason : Type 0
CauseIsReason =
    (limit : ℕ) (capacity : Capacity) (before : List Event) (event : Event) (cause : Cause) → IsProper capacity → IsCause limit capacity before event cause →
    ¬ IsLinearizable capacity (before ++ event ∷ [])

-- and if a history stops being linearizable, at an event that comes in turn, there is a cause
abbrev pub FaultHasACause : Type 0
FaultHasACause =
    (limit : ℕ) (capacity : Capacity) (before : List Event) (event : Event) → IsProper capacity → IsLinearizable capacity before → CallsAreInTurn (before ++ event ∷ []) →
    ¬ IsLinearizable capacity (before ++ event ∷ []) → (cause : Cause) × IsCause limit capacity before event cause
