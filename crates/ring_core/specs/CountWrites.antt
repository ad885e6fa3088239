-- Each count write of a ring has an access.
use Rattle.std.specs.Prelude.{ℕ, ◌≤◌, List, length}
use Rattle.bits_core.specs.declared.events.Side.{Side}
use Rattle.bits_core.specs.declared.shapes.Shape.{Shape}
use Rattle.ring_core.specs.Counts.{Count, batch_by, IsCount, batch_phrase, first_count}
use Rattle.ring_core.specs.Puts.{Stored, stored_after}

-- the first count shows its number, and so does each count after a put that stores
abbrev pub CountsShowNumbers : Type 0
CountsShowNumbers = (shape : Shape) → IsCount shape first_count × ((c : Count) (seen : ℕ) (items : List ℕ) → IsCount shape (stored_after shape c (Stored seen items)))

-- a write of a count that shows its number, of some items and no more than the side's batch, has an access
abbrev pub CountsAreWritten : Type 0
CountsAreWritten =
    (shape : Shape) (s : Side) (c : Count) (items : List ℕ) → IsCount shape c → 1 ≤ length items → length items ≤ batch_by shape s → 1 ≤ length (batch_phrase shape s c items)
