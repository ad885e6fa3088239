-- Linearizability by counting: what an auditor keeps of a history, and what each event needs of it and makes of it. It keeps the items
-- that are inside, with those offered by the put under way, which may have been stored; a history is linearizable if each event can be
-- counted.
use Rattle.std.specs.Prelude.{◌≡◌, ◌⊎◌, ℕ, ◌-◌, ◌<◌, Bool, true, false, List, [], ◌∷◌, ◌++◌, length, take, drop, ◌↔◌}
use Rattle.queue_calls.specs.Queue.{Capacity}
use Rattle.queue_calls.specs.Calls.{Event, PutBegin, PutEnd, CloseBegin, CloseEnd, TakeBegin, TakeEnd, Nothing, Shut, passed, is_shut, CanReply, lacked_by, IsLinearizable}
use Rattle.queue_calls.specs.State.{IsProper, MayLack, AreNext, CanEndPut, CanEndTake, offered_by, asked_by, has_closed}
use Rattle.queue_calls.specs.declared.auditors.CallAuditor.{CallAuditor}
use Rattle.queue_calls.specs.declared.turns.PutTurn.{PutTurn}
use Rattle.queue_calls.specs.declared.turns.PutTurn.TheVariants.{Free, Offers, Late, Closes}
use Rattle.queue_calls.specs.declared.turns.TakeTurn.{TakeTurn}
use Rattle.queue_calls.specs.declared.turns.TakeTurn.TheVariants.{Rests, Waits}

-- what is kept: the items inside, what each side has under way, and whether the queue is known to be closed
pub record Kept : Type 0 where
  pub inside : List ℕ
  pub put : PutTurn
  pub take : TakeTurn
  pub shut : Bool

-- what is kept, from its parts
abbrev pub kept : List ℕ → PutTurn → TakeTurn → Bool → Kept
kept inside put take shut = record { inside = inside; put = put; take = take; shut = shut }

-- what an auditor keeps, if its list has these items
abbrev pub kept_by : {Q E : Type 0} → (items : Q → List ℕ) → CallAuditor Q E → Kept
kept_by items a = kept (items a.inside) a.put a.take a.shut

-- the items inside without the last `rest`
abbrev pub without : ℕ → List ℕ → List ℕ
without rest inside = take (length inside - rest) inside

-- a put ends with `rest` of its items not stored
abbrev pub EndsPut : Capacity → Kept → ℕ → Kept → Type 0
EndsPut capacity k rest after = CanEndPut capacity (length k.inside) (asked_by k.take) rest × (after ≡ kept (without rest k.inside) Free k.take k.shut)

-- a take ends with `count` items
abbrev pub EndsTake : Capacity → Kept → ℕ → Kept → Type 0
EndsTake capacity k count after = CanEndTake capacity (length k.inside) (offered_by k.put) count × (after ≡ kept (drop count k.inside) k.put Rests k.shut)

-- a take that took `done` items found fewer than `lacked`, if it reports that, and there were more to come if it took none
abbrev pub FoundFewer : (before : ℕ) (ended : Bool) (done lacked : ℕ) → Type 0
FoundFewer before ended done lacked = 0 < lacked → (before < lacked) × (done ≡ 0 → ended ≡ true → 0 < before)

-- an event can be counted: what was kept before, and what is kept after
abbrev pub Counts : Capacity → Kept → Event → Kept → Type 0
Counts capacity k (PutBegin items) after =
    (k.put ≡ Free) × (0 < length items) ×
    (((k.shut ≡ false) × (after ≡ kept (k.inside ++ items) (Offers (length items) (length k.inside)) k.take false)) ⊎
    ((k.shut ≡ true) × (after ≡ kept k.inside (Late (length items)) k.take true)))
Counts capacity k (PutEnd reply) after =
    ((offered before : ℕ) × (k.put ≡ Offers offered before) × (is_shut reply ≡ false) × CanReply reply (passed 0 reply) offered ×
    MayLack capacity before (lacked_by reply (passed 0 reply) (offered - passed 0 reply)) × EndsPut capacity k (offered - passed 0 reply) after) ⊎
    ((offered : ℕ) × (k.put ≡ Late offered) × ((reply ≡ Nothing) ⊎ (reply ≡ Shut)) × (after ≡ kept k.inside Free k.take k.shut))
Counts capacity k CloseBegin after = (k.put ≡ Free) × (after ≡ kept k.inside (Closes k.shut) k.take k.shut)
Counts capacity k CloseEnd after = (again : Bool) × (k.put ≡ Closes again) × (after ≡ kept k.inside Free k.take true)
Counts capacity k (TakeBegin wanted) after =
    (k.take ≡ Rests) × (0 < wanted) × (after ≡ kept k.inside k.put (Waits wanted (length k.inside - offered_by k.put) k.shut) k.shut)
Counts capacity k (TakeEnd reply) after =
    (wanted before : ℕ) × (ended : Bool) × (k.take ≡ Waits wanted before ended) ×
    (((is_shut reply ≡ false) × CanReply reply (length (passed [] reply)) wanted ×
    FoundFewer before ended (length (passed [] reply)) (lacked_by reply (length (passed [] reply)) (wanted - length (passed [] reply))) ×
    AreNext (passed [] reply) k.inside × EndsTake capacity k (length (passed [] reply)) after) ⊎
    ((is_shut reply ≡ true) × (k.inside ≡ []) × (has_closed k.put k.shut ≡ true) × (after ≡ kept [] k.put Rests true)))

-- the events of a history can be counted, one after the other
abbrev pub AreCounted : Capacity → Kept → List Event → Type 0
AreCounted capacity k [] = Unit {0}
AreCounted capacity k (event ∷ h) = (after : Kept) × Counts capacity k event after × AreCounted capacity after h

-- counting them leads from one kept state to another
abbrev pub CountTo : Capacity → Kept → List Event → Kept → Type 0
CountTo capacity k [] last = last ≡ k
CountTo capacity k (event ∷ h) last = (after : Kept) × Counts capacity k event after × CountTo capacity after h last

-- a history that can be counted from the start is linearizable
abbrev pub CountedIsLinearizable : Type 0
CountedIsLinearizable = (capacity : Capacity) (h : List Event) → IsProper capacity → AreCounted capacity (kept [] Free Rests false) h → IsLinearizable capacity h

-- and a linearizable history can be counted: the rules accept exactly these histories
abbrev pub CountsAreExact : Type 0
CountsAreExact = (capacity : Capacity) (h : List Event) → IsProper capacity → AreCounted capacity (kept [] Free Rests false) h ↔ IsLinearizable capacity h
