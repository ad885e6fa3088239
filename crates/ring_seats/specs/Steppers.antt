-- What one step of an end adds to its list, and what its reads return.
use Rattle.std.specs.Prelude.{◌≡◌, ◌⊎◌, ℕ, ◌+◌, Bool, List, [], ◌∷◌, ◌++◌, Option, Some, None, if◌then◌else◌}
use Rattle.bits_core.specs.declared.events.Side.{Side}
use Rattle.bits_core.specs.declared.events.Access.{Access}
use Rattle.bits_core.specs.declared.events.Act.{Act}
use Rattle.bits_core.specs.declared.events.Act.TheVariants.{ReadBegin, ReadEnd, WriteBegin, WriteEnd}
use Rattle.bits_core.specs.declared.events.Event.{Event}
use Rattle.bits_core.specs.History.{open_access}
use Rattle.ring_seats.specs.Ring.{RingEnd}
use Rattle.ring_seats.specs.Programs.{Follows, GoesOn, begin_of, ending_event}
use Rattle.ring_seats.specs.Rule.{Stands}
use Rattle.ring_seats.specs.Words.{agrees, answer_of}
use Rattle.ring_seats.specs.declared.views.Loads.{Loads}

-- the same end, except for its list
pub record IsSameEnd (a b : RingEnd) : Type 0 where
  pub ring : b.ring ≡ a.ring
  pub side : b.side ≡ a.side
  pub known : b.known ≡ a.known

-- the end's list is this side of a lawful history whose two sides follow their programs, and which begins with what the end knows
abbrev pub StandsAs : Side → RingEnd → Type 0
StandsAs x e = Stands e.ring.shape x e.list e.known

-- e was added to the list, and nothing else changed. The list is one side of a lawful history
pub record Grows (a b : RingEnd) (e : Event) : Type 0 where
  pub same : IsSameEnd a b
  pub list : b.list ≡ a.list ++ e ∷ []
  pub stands : Stands b.ring.shape b.side b.list b.known

-- the access can start, or it is open and can end
abbrev pub CanStep : RingEnd → Access → Type 0
CanStep a access =
    ((open_access a.side a.list ≡ None) × Follows a.ring.shape a.side (a.list ++ begin_of a.side access ∷ []))
    ⊎ ((open_access a.side a.list ≡ Some access) × GoesOn a.ring.shape a.side access a.list)

-- the access began, or it ended with this answer
abbrev pub HasStepped : RingEnd → RingEnd → Access → Option Bool → Type 0
HasStepped a b access None = (open_access a.side a.list ≡ None) × Grows a b (begin_of a.side access)
HasStepped a b access (Some v) = (open_access a.side a.list ≡ Some access) × Grows a b (ending_event a.side access v)

-- the access can be made completely
abbrev pub CanMake : RingEnd → Access → Type 0
CanMake a access =
    (open_access a.side a.list ≡ None) × Follows a.ring.shape a.side (a.list ++ begin_of a.side access ∷ [])
    × GoesOn a.ring.shape a.side access (a.list ++ begin_of a.side access ∷ [])

-- the access was made, and had this answer
abbrev pub HasMade : RingEnd → RingEnd → Access → Bool → Type 0
HasMade a b access v = (mid : RingEnd) × Grows a mid (begin_of a.side access) × Grows mid b (ending_event a.side access v)

-- an oracle, by the answers that it has from now on, was asked at most once
abbrev pub IsAskedOnce : {O : Type 0} → (O → ℕ → Bool) → O → O → Type 0
IsAskedOnce answers old new = (new ≡ old) ⊎ ((i : ℕ) → answers new i ≡ answers old (i + 1))

-- ---- what reads return

-- how often a read with these loads asks its oracle: not if they agree, otherwise once
abbrev pub asks_of : Loads → ℕ
asks_of l = if agrees l.first l.found then 0 else 1

-- the same for reads one after another
abbrev pub asks_of_all : List Loads → ℕ
asks_of_all [] = 0
asks_of_all (l ∷ rest) = asks_of l + asks_of_all rest

-- what these reads return, by the answers that their oracle has from now on
abbrev pub answers_by : List Loads → (ℕ → Bool) → List Bool
answers_by [] said = []
answers_by (l ∷ rest) said = answer_of l.first l.found (said 0) ∷ answers_by rest (λ i. said (i + asks_of l))

-- the answers in a list, with one more event in front
abbrev pub and_answer : Act → List Bool → List Bool
and_answer ReadBegin rest = rest
and_answer (ReadEnd v) rest = v ∷ rest
and_answer (WriteBegin v) rest = rest
and_answer WriteEnd rest = rest

-- the answers of the reads that end in a list
abbrev pub answers_in : List Event → List Bool
answers_in [] = []
answers_in (e ∷ rest) = and_answer e.act (answers_in rest)

-- From a to b each read that ended was answered by its two loads if these agree, otherwise by its oracle, which was asked then,
-- once, and for nothing else. The oracle is known by the answers that it has from now on, before and after.
pub record AreAnswered (a b : RingEnd) (old new : ℕ → Bool) : Type 0 where
  pub loads : List Loads
  pub loads_are : b.loads ≡ a.loads ++ loads
  pub answers_are : answers_in b.list ≡ answers_in a.list ++ answers_by loads old
  pub asked : (i : ℕ) → new i ≡ old (i + asks_of_all loads)
