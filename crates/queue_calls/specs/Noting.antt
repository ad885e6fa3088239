-- The items that a history takes, and the cases in which lists are too short for it.
use Rattle.std.specs.Prelude.{◌⊎◌, ℕ, ◌<◌, List, [], length, flat_map}
use Rattle.queue_calls.specs.Queue.{Capacity}
use Rattle.queue_calls.specs.Calls.{Event, TakeEnd, passed}
use Rattle.queue_calls.specs.Audits.{HasMoreItems}

-- the items that an event takes
abbrev pub items_got : Event → List ℕ
items_got (TakeEnd reply) = passed [] reply
items_got _ = []

-- those that the events of a history take
abbrev pub all_got : List Event → List ℕ
all_got h = flat_map items_got h

-- a history for which a list is too short: that of the items inside or offered; or that of the items taken last, of which `limit` are kept
abbrev pub OutgrowsLists : (limit offered taken : ℕ) → Capacity → List Event → Type 0
OutgrowsLists limit offered taken capacity h = HasMoreItems offered capacity h ⊎ ((taken < limit) × (taken < length (all_got h)))
