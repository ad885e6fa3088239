-- What is kept of a history whose operations take effect at given moments: a point of it.
use Rattle.std.specs.Prelude.{◌≡◌, ◌+◌, ℕ, List, Bool, true, false, Some, slice_get}
use Rattle.queue_calls.specs.Queue.{queue, Enqueue, FindNoRoom, FindShut, Close, Dequeue, FindFewer, FindClosed}
use Rattle.queue_calls.specs.Calls.{Mark, Happens, Effect, Point, point, Leads, LeadTo}
use Rattle.queue_calls.specs.Told.{meant}
use Rattle.queue_points.specs.Steps.{consumer_of, producer_of, stretch}
use Rattle.queue_points.specs.declared.points.LinearizationPoints.{LinearizationPoints}

-- the point that is kept: the items of the row from the head up to the tail are inside
abbrev pub point_of : LinearizationPoints → Point
point_of m = point (queue (stretch m.row.now m.head m.tail) m.closed) (producer_of m.put) (consumer_of m.row.now m.head m.take)

-- what was fed so far, the last mark first, leads from the empty open queue to the point that is kept
abbrev pub HasFollowed : LinearizationPoints → List Mark → Type 0
HasFollowed m marks = LeadTo (meant m.capacity) marks (point_of m)

-- if a mark puts an item in, it is the one at this place of the row
abbrev pub PutsIn : List ℕ → ℕ → Mark → Type 0
PutsIn row place (Happens event) = Unit {0}
PutsIn row place (Effect (Enqueue item)) = slice_get row place ≡ Some item
PutsIn row place (Effect (FindNoRoom count)) = Unit {0}
PutsIn row place (Effect FindShut) = Unit {0}
PutsIn row place (Effect Close) = Unit {0}
PutsIn row place (Effect (Dequeue item)) = Unit {0}
PutsIn row place (Effect (FindFewer count)) = Unit {0}
PutsIn row place (Effect FindClosed) = Unit {0}

-- how many items a mark puts in
abbrev pub puts_in : Mark → ℕ
puts_in (Happens event) = 0
puts_in (Effect (Enqueue item)) = 1
puts_in (Effect (FindNoRoom count)) = 0
puts_in (Effect FindShut) = 0
puts_in (Effect Close) = 0
puts_in (Effect (Dequeue item)) = 0
puts_in (Effect (FindFewer count)) = 0
puts_in (Effect FindClosed) = 0

-- a mark was accepted, which leads to what is kept now; or it leads nowhere, or may put in an item other than the next of the row, and
-- everything is unchanged
abbrev pub Accepts : LinearizationPoints → Mark → Bool → LinearizationPoints → Type 0
Accepts old mark true new = Leads (meant old.capacity) (point_of old) mark (point_of new) × (new.capacity ≡ old.capacity) × (new.row.now ≡ old.row.now)
    × (new.tail ≡ old.tail + puts_in mark)
Accepts old mark false new = (new ≡ old) × (PutsIn old.row.now old.tail mark → (t : Point) → ¬ Leads (meant old.capacity) (point_of old) mark t)
