-- The law of the ring, for every lawful history whose two sides follow their programs. A moment is a place of the history;
-- the clocks of the two sides say what comes before it.
use Rattle.std.specs.Prelude.{◌≡◌, ◌⊎◌, ℕ, suc, ◌+◌, ◌-◌, ◌*◌, ◌<◌, ◌≤◌, ◌%◌, Bool, true, Some, List, length, slice_get}
use Rattle.bits_core.specs.declared.events.Side.{Side}
use Rattle.bits_core.specs.declared.events.Side.TheVariants.{P, C}
use Rattle.bits_core.specs.declared.events.Bit.TheVariants.{X, Cell}
use Rattle.bits_core.specs.declared.events.Access.TheVariants.{Read}
use Rattle.bits_core.specs.declared.events.Event.{Event}
use Rattle.bits_core.specs.declared.shapes.Shape.{Shape}
use Rattle.bits_core.specs.Shape.{capacity_of, modulus_of, width_of}
use Rattle.bits_core.specs.Intervals as intervals
use Rattle.bits_core.specs.Intervals.{IsLawful}
use Rattle.bits_core.specs.Made.{subhistory, clock, IsPlaceOf, IsPrefix}
use Rattle.ring_core.specs.Counts.{distance, first_count}
use Rattle.register_core.specs.Phrases.{word_write, word_read}
use Rattle.ring_core.specs.Puts.{Stored, Full, Puts, put_phrases, put_program, FollowsPuts}
use Rattle.ring_core.specs.Takes.{Take, Item, Empty, Takes, accesses_before_word, take_program, FollowsTakes}
use Rattle.ring_core.specs.Items.{taken_of, events_in, items_put, items_taken, all_put, puts_begun, puts_ended, takes_begun, takes_ended, IsTold}
use Rattle.ring_core.specs.CallsAt.{IsPutAt, IsTakeAt, IsPartAt, scan_events}
use Rattle.ring_core.specs.Ranges.{PutsAreInRange, TakesAreInRange}

-- a lawful history whose two sides follow these calls
pub record IsRun (shape : Shape) (h : List Event) (puts : Puts) (takes : Takes) : Type 0 where
  pub lawful : IsLawful shape h
  pub puts_follow : FollowsPuts shape h puts
  pub takes_follow : FollowsTakes shape h takes

-- from the place of a side's own event i to that of its own event e, or past the end of the history if that one has not come
pub record IsInterval (s : Side) (h : List Event) (i e start stop : ℕ) : Type 0 where
  pub begins : IsPlaceOf s h i start
  pub ends : IsPlaceOf s h e stop ⊎ ((length (subhistory s h) ≤ e) × (stop ≡ length h))

-- at every moment no more items are taken than put, and those put and not taken are no more than the ring has cells
abbrev pub IsWithin : Shape → List Event → Puts → Takes → Type 0
IsWithin shape h puts takes =
    (t : ℕ) → (takes_begun shape takes (clock C h t) ≤ puts_begun shape puts (clock P h t)) ×
    (puts_begun shape puts (clock P h t) ≤ takes_begun shape takes (clock C h t) + capacity_of shape)

-- no word write of a cell overlaps a word read of it, each from its first start to its last end
abbrev pub WordsAreQuiet : Shape → List Event → Puts → Takes → Type 0
WordsAreQuiet shape h puts takes =
    (cell item item' word word' : ℕ) → IsPartAt (put_program shape puts) (word_write (width_of shape) cell item) word →
    IsPartAt (take_program shape takes) (word_read (width_of shape) cell item') word' →
    (start stop start' stop' : ℕ) → IsInterval P h word (word + 2 * width_of shape - 1) start stop →
    IsInterval C h word' (word' + 2 * width_of shape - 1) start' stop' → ¬ intervals.Overlap start stop start' stop'

-- no write of a digit of a cell overlaps a read of a digit of it
abbrev pub CellsAreQuiet : Shape → List Event → Puts → Takes → Type 0
CellsAreQuiet shape h puts takes =
    (j d d' : ℕ) (v : Bool) (start stop start' stop' : ℕ) → intervals.IsWrite h (Cell j d) v start stop →
    intervals.IsAccess h C (Read (Cell j d')) start' stop' → ¬ intervals.Overlap start stop start' stop'

-- at every moment the items taken are a prefix of the items put
abbrev pub TakenArePrefix : Shape → List Event → Puts → Takes → Type 0
TakenArePrefix shape h puts takes =
    (t : ℕ) → IsPrefix (items_taken shape first_count takes.takes (clock C h t)) (items_put shape first_count puts.puts (clock P h t))

-- word read i of a take after k items, once it has ended, even before the count write, returns item number k + i of those put
abbrev pub TakesMatchPuts : Shape → List Event → Puts → Takes → Type 0
TakesMatchPuts shape h puts takes =
    (t k i item start stop : ℕ) (x : Take) → IsTakeAt shape takes x k start stop → slice_get (taken_of x) i ≡ Some item →
    start + events_in (accesses_before_word x) + 2 * (suc i * width_of shape) ≤ clock C h t →
    slice_get (items_put shape first_count puts.puts (clock P h t)) (k + i) ≡ Some item

-- when a take that finds the ring empty begins, the ring is empty and open: puts that had ended had stored no more items than takes
-- that had ended had taken, and no write of the close bit had ended
abbrev pub EmptyIsFresh : Shape → List Event → Puts → Takes → Type 0
EmptyIsFresh shape h puts takes =
    (seen k start stop : ℕ) → IsTakeAt shape takes (Empty seen) k start stop → stop ≤ length (subhistory C h) →
    (first : ℕ) × IsPlaceOf C h start first × (puts_ended shape puts (clock P h first) ≤ takes_ended shape takes (clock C h first)) ×
    ((v : Bool) (from to : ℕ) → intervals.IsWrite h X v from to → ¬ (to < first))

-- when a put that finds the ring full begins, the items stored before it, less those of takes that had ended, are at least
-- the capacity
abbrev pub FullIsFresh : Shape → List Event → Puts → Takes → Type 0
FullIsFresh shape h puts takes =
    (seen n start stop : ℕ) → IsPutAt shape puts (Full seen) n start stop → stop ≤ length (subhistory P h) →
    (first : ℕ) × IsPlaceOf P h start first × (takes_ended shape takes (clock C h first) + capacity_of shape ≤ n)

-- and when a put begins whose items fill all the room that its scan left, the same holds for the items stored up to and including it
abbrev pub FillIsFresh : Shape → List Event → Puts → Takes → Type 0
FillIsFresh shape h puts takes =
    (seen : ℕ) (items : List ℕ) (n start stop : ℕ) → IsPutAt shape puts (Stored seen items) n start stop → start + scan_events P seen ≤ length (subhistory P h) →
    distance (modulus_of shape) (n % modulus_of shape) seen + length items ≡ capacity_of shape →
    (first : ℕ) × IsPlaceOf P h start first × (takes_ended shape takes (clock C h first) + capacity_of shape ≤ n + length items)

-- and when a take begins that takes all the items that its scan showed, puts that had ended had stored no more items than were
-- taken up to and including it
abbrev pub DrainIsFresh : Shape → List Event → Puts → Takes → Type 0
DrainIsFresh shape h puts takes =
    (seen : ℕ) (items : List ℕ) (k start stop : ℕ) → IsTakeAt shape takes (Item seen items) k start stop → start + scan_events C seen ≤ length (subhistory C h) →
    distance (modulus_of shape) seen (k % modulus_of shape) ≡ length items → 1 ≤ length items →
    (first : ℕ) × IsPlaceOf C h start first × (puts_ended shape puts (clock P h first) ≤ k + length items)

-- once a take has returned Closed, at every later moment all items of the calls were put and taken, and the close has begun,
-- after all puts
abbrev pub ClosedIsTrue : Shape → List Event → Puts → Takes → Type 0
ClosedIsTrue shape h puts takes =
    (t u : ℕ) → IsTold shape takes (clock C h t) → t ≤ u →
    (items_put shape first_count puts.puts (clock P h u) ≡ all_put puts.puts) × (items_taken shape first_count takes.takes (clock C h u) ≡ all_put puts.puts) ×
    (puts.closes ≡ true) × (events_in (put_phrases shape first_count puts.puts) < clock P h u)

-- all of these
pub record RingLaw (shape : Shape) (h : List Event) (puts : Puts) (takes : Takes) : Type 0 where
  pub within : IsWithin shape h puts takes
  pub put_range : PutsAreInRange shape h puts takes
  pub take_range : TakesAreInRange shape h puts takes
  pub words : WordsAreQuiet shape h puts takes
  pub cells : CellsAreQuiet shape h puts takes
  pub prefix : TakenArePrefix shape h puts takes
  pub items : TakesMatchPuts shape h puts takes
  pub empty : EmptyIsFresh shape h puts takes
  pub full : FullIsFresh shape h puts takes
  pub fill : FillIsFresh shape h puts takes
  pub drain : DrainIsFresh shape h puts takes
  pub closed : ClosedIsTrue shape h puts takes

-- the statement holds for every lawful history whose two sides follow their programs
abbrev pub InEveryRun : (Shape → List Event → Puts → Takes → Type 0) → Type 0
InEveryRun Holds = (shape : Shape) (h : List Event) (puts : Puts) (takes : Takes) → IsRun shape h puts takes → Holds shape h puts takes
