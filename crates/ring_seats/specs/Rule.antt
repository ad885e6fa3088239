-- The rule of the ring over its words and views, and what its steps report.
use Rattle.std.specs.Prelude.{◌≡◌, ℕ, ◌<◌, Bool, true, false, List, [], length, slice_index, Some, None}
use mathlib.Core.Option.{some}
use lib.ListN.{get_elem?}
use Rattle.atomic_table.specs.Table.{State, Me}
use Rattle.atomic_table.specs.Seated.{TableId}
use Rattle.bits_core.specs.declared.shapes.Shape.{Shape}
use Rattle.bits_core.specs.declared.events.Side.{Side}
use Rattle.bits_core.specs.declared.events.Side.TheVariants.{P, C}
use Rattle.bits_core.specs.declared.events.Bit.{Bit}
use Rattle.bits_core.specs.declared.events.Act.{Act}
use Rattle.bits_core.specs.declared.events.Event.{Event}
use Rattle.bits_core.specs.declared.events.Access.TheVariants.{Read}
use Rattle.bits_core.specs.History.{open_access, before_last}
use Rattle.bits_core.specs.Made.{subhistory, IsPrefix}
use Rattle.ring_seats.specs.declared.views.View.{View}
use Rattle.ring_seats.specs.Words.{shown, word_count, Shows}
use Rattle.ring_seats.specs.Programs.{IsRing}

-- an event, from its parts
abbrev pub event : Side → Bit → Act → Event
event x b a = record { side = x; bit = b; act = a }

-- the views

-- the view of a seat that may step for both sides
abbrev pub joint : List Event → List Event → List Event → List Event → View
joint put taken known known_by_taker = record { puts = true; takes = true; put = put; taken = taken; known = known; known_by_taker = known_by_taker; first = 0; loads = [] }

-- the view of a seat that may step for neither
abbrev pub spent : View
spent = record { puts = false; takes = false; put = []; taken = []; known = []; known_by_taker = []; first = 0; loads = [] }

-- the producer's half of a joint view
abbrev pub putter_of : View → View
putter_of v = record { puts = true; takes = false; put = v.put; taken = []; known = v.known; known_by_taker = v.known_by_taker; first = v.first; loads = v.loads }

-- the consumer's half of a joint view
abbrev pub taker_of : View → View
taker_of v = record { puts = false; takes = true; put = []; taken = v.taken; known = v.known; known_by_taker = v.known_by_taker; first = v.first; loads = v.loads }

-- the joint view of two halves
abbrev pub joined : View → View → View
joined v w = joint v.put w.taken v.known w.known

-- it may step for the side
abbrev pub may_step : Side → View → Bool
may_step P v = v.puts
may_step C v = v.takes

-- the side's list
abbrev pub list_of : Side → View → List Event
list_of P v = v.put
list_of C v = v.taken

-- A table is new: its key is the shape, it has this many words, at least one, and no slots. Its one seat steps for both sides,
-- which have made no event
abbrev pub IsNewTable : Shape → ℕ → Shape → TableId → TableId → Me (Unit {0}) View → Type 0
IsNewTable shape words key table seat me =
    (key ≡ shape) × (table.words ≡ words) × (table.slots ≡ 0) × (0 < words) × (seat ≡ table) × (me ≡ (joint [] [] [] [], []))

-- the rule

-- if a read of the side is open, the load is the word that the history before its start shows
abbrev pub FirstLoad : Side → List Event → ℕ → Type 0
FirstLoad x h load = (b : Bit) → open_access x h ≡ Some (Read b) → load ≡ shown b (before_last x h)

-- the one seat that may step for the side has its list, what is known, and the first load of its open read
pub record SeatKnows (h known : List Event) (owner : Side → ℕ) (seat : ℕ) (v : View) (x : Side) : Type 0 where
  pub at : seat ≡ owner x
  pub list : list_of x v ≡ subhistory x h
  pub known_is : v.known ≡ known
  pub known_by_taker_is : v.known_by_taker ≡ known
  pub load : FirstLoad x h v.first

-- each seat that may step for a side knows this history
abbrev pub SeatsKnow : List Event → List Event → (Side → ℕ) → List View → Type 0
SeatsKnow h known owner views =
    (seat : ℕ) (v : View) → get_elem? views seat ≡ some v → (x : Side) → may_step x v ≡ true → SeatKnows h known owner seat v x

-- for each side there is a seat that may step for it
abbrev pub HasSeats : (Side → ℕ) → List View → Type 0
HasSeats owner views = (x : Side) → (v : View) × (get_elem? views (owner x) ≡ some v) × (may_step x v ≡ true)

-- There is a lawful history, whose two sides are the two seats' lists and follow their programs, which the words show, and
-- which begins with what the seats know; and for each side there is exactly one seat that may step for it. The kind of
-- ring says how many words it has and what they show
pub record KeptBy (count : Shape → ℕ) (IsShown : Shape → List ℕ → List Event → Type 0) (shape : Shape) (s : State (Unit {0}) View) : Type 0 where
  pub history : List Event
  pub known : List Event
  pub owner : Side → ℕ
  pub ring : IsRing shape history
  pub wide : length s.words ≡ count shape
  pub shows : IsShown shape s.words history
  pub begins : IsPrefix known history
  pub each : HasSeats owner s.views
  pub seats : SeatsKnow history known owner s.views

-- the rule of the flickering ring
abbrev pub KeepsFlickerRule : Shape → State (Unit {0}) View → Type 0
KeepsFlickerRule shape s = KeptBy word_count Shows shape s

-- the word at the place is this in some state that satisfies the rule
abbrev pub IsWordFound : (State (Unit {0}) View → Type 0) → ℕ → ℕ → Type 0
IsWordFound holds place word = (s : State (Unit {0}) View) × holds s × (slice_index s.words place ≡ word)

-- the side has no access open
abbrev pub IsIdle : Side → List Event → Type 0
IsIdle x list = open_access x list ≡ None

-- what the steps report

-- the list is one side of a lawful history, which begins with what is known and whose sides follow their programs
pub record Stands (shape : Shape) (x : Side) (list known : List Event) : Type 0 where
  pub history : List Event
  pub ring : IsRing shape history
  pub list_is : subhistory x history ≡ list
  pub begins : IsPrefix known history

-- the history is lawful, its sides are the lists and follow their programs, and it begins with what both sides knew
pub record Holds (shape : Shape) (h : List Event) (v : View) : Type 0 where
  pub ring : IsRing shape h
  pub put : subhistory P h ≡ v.put
  pub taken : subhistory C h ≡ v.taken
  pub known : IsPrefix v.known h
  pub known_by_taker : IsPrefix v.known_by_taker h

-- the joint seat knows a history whose sides are its lists
pub record Learned (shape : Shape) (m m' : Me (Unit {0}) View) : Type 0 where
  pub view : m'.0 ≡ joint m.0.put m.0.taken m'.0.known m'.0.known
  pub carried : m'.1 ≡ m.1
  pub holds : Holds shape m'.0.known m.0
