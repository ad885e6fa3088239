-- What the page receives for the order in which the operations of calls take effect.
use Rattle.std.specs.Prelude.{◌≡◌, ◌==◌, ℕ, List, [], ◌∷◌, Option, Some, None, option_map, nat_eq, nat_le, if◌then◌else◌, reverse, slice_get, take, drop, length, ◌≤◌, ◌+◌}
use Rattle.queue_calls.specs.Queue.{Capacity, Unbounded, Between, Operation, Enqueue, FindNoRoom, FindShut, Close, Dequeue, FindFewer, FindClosed}
use Rattle.queue_calls.specs.Calls.{Mark, Happens, Effect, Point, Leads, LeadTo}
use Rattle.call_lines.specs.Lines.{word_of}
use Rattle.call_lines.specs.declared.lines.Word.{Word}
use Rattle.queue_points.specs.declared.points.LinearizationPoints.{LinearizationPoints}
use Rattle.queue_points.specs.Points.{HasFollowed, PutsIn, puts_in}
use Rattle.queue_calls.specs.Recordings.{Line, line, begun_after, event_told}
use Rattle.queue_calls.specs.Told.{meant}
use Rattle.queue_calls.specs.declared.hearings.Begun.{Begun}
use Rattle.queue_calls.specs.declared.hearings.Begun.TheVariants.{Nothing}
use Rattle.ring_page.specs.declared.orders.Came.{Came}
use Rattle.ring_page.specs.declared.orders.Holds.{Holds}

-- the capacity with these numbers
abbrev pub capacity_in : Holds → Capacity
capacity_in holds = (if nat_eq holds.bounded 0 then Unbounded else Between holds.full holds.most)

-- some of the numbers, from a place on, if they are there
abbrev pub listed_in : List ℕ → Came → Option (List ℕ)
listed_in numbers came = (if nat_le (came.value + came.count) (length numbers) then Some (take came.count (drop came.value numbers)) else None)

-- a line, if there are a word and numbers
abbrev pub line_with : Option Word → Option (List ℕ) → Option Line
line_with (Some word) (Some numbers) = Some (line word numbers)
line_with _ _ = None

-- the line with these numbers: the word of a number, and others of the list
abbrev pub line_in : List ℕ → Came → Option Line
line_in numbers came = line_with (word_of came.kind) (listed_in numbers came)

-- the operation with these numbers
abbrev pub does_in : Came → Option Operation
does_in came =
    if came.kind == 17 then Some (Enqueue came.value) else
    if came.kind == 18 then Some (FindNoRoom came.count) else
    if came.kind == 19 then Some FindShut else
    if came.kind == 20 then Some Close else
    if came.kind == 21 then Some (Dequeue came.value) else
    if came.kind == 22 then Some (FindFewer came.count) else
    if came.kind == 23 then Some FindClosed else
    None

-- the mark of a line, or of an operation, if the producer began this last
abbrev pub mark_told : Begun → Option Line → Option Operation → Option Mark
mark_told b (Some l) does = option_map (λ event. Happens event) (event_told b l.word l.numbers)
mark_told b None does = option_map (λ x. Effect x) does

-- the numbers are those of a mark, if the producer began this last
abbrev pub TellsMark : Begun → List ℕ → Came → Mark → Type 0
TellsMark b numbers came mark = mark_told b (line_in numbers came) (does_in came) ≡ Some mark

-- what the producer began last, after a line or an operation
abbrev pub begun_with : Begun → Option Line → Begun
begun_with b (Some l) = begun_after b l.word l.numbers
begun_with b None = b

-- and after marks
abbrev pub begun_last : Begun → List ℕ → List Came → Begun
begun_last b numbers [] = b
begun_last b numbers (c ∷ came) = begun_last (begun_with b (line_in numbers c)) numbers came

-- the numbers are those of marks, one after the other
abbrev pub TellMarks : Begun → List ℕ → List Came → List Mark → Type 0
TellMarks b numbers [] [] = Unit {0}
TellMarks b numbers (c ∷ came) (mark ∷ order) = TellsMark b numbers c mark × TellMarks (begun_with b (line_in numbers c)) numbers came order
TellMarks b numbers _ _ = ⊥

-- how many items marks put in
abbrev pub count_put : List Mark → ℕ
count_put [] = 0
count_put (mark ∷ order) = puts_in mark + count_put order

-- the marks of these numbers came, after which the producer began this last, and were accepted; each item that they put in was the next
-- of the items
pub record HaveCome (numbers items : List ℕ) (came : List Came) (capacity : Capacity) (m : LinearizationPoints) (b : Begun) : Type 0 where
  pub order : List Mark
  pub told : TellMarks Nothing numbers came order
  pub begun_is : b ≡ begun_last Nothing numbers came
  pub followed : HasFollowed m (reverse order)
  pub capacity_is : meant m.capacity ≡ capacity
  pub row_is : m.row.now ≡ items
  pub place_is : m.tail ≡ count_put order

-- the mark of these numbers leads nowhere from a point, or may put in an item other than the one at this place
abbrev pub LeadsNowhere : Begun → List ℕ → List ℕ → Came → Capacity → Point → ℕ → Type 0
LeadsNowhere b numbers items came capacity s place =
    (mark : Mark) → TellsMark b numbers came mark → PutsIn items place mark → (t : Point) → ¬ Leads capacity s mark t

-- This many of the first marks lead from the empty open queue to a point: with them the events among these are a linearizable history.
-- From there the next leads nowhere, if there is one, or it puts in an item other than the next of the items
pub record TellsOrder (numbers items : List ℕ) (came : List Came) (capacity : Capacity) (count : ℕ) : Type 0 where
  pub few : count ≤ length came
  pub order : List Mark
  pub told : TellMarks Nothing numbers (take count came) order
  pub point : Point
  pub leads : LeadTo capacity (reverse order) point
  pub all : (next : Came) → slice_get came count ≡ Some next → LeadsNowhere (begun_last Nothing numbers (take count came)) numbers items next capacity point (count_put order)
