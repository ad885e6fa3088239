-- What an auditor keeps of a history: it describes the points to which the history can lead.
use Rattle.std.specs.Prelude.{◌≡◌, ℕ, ◌+◌, ◌-◌, ◌<◌, ◌≤◌, ◌⊎◌, Bool, true, false, List, [], ◌++◌, length}
use Rattle.queue_calls.specs.Queue.{Capacity, Unbounded, Between, LacksRoom, Queue, IsDrained}
use Rattle.queue_calls.specs.Calls.{Event, Producer, Idle, Putting, FoundShut, Closing, Consumer, Resting, Taking, FoundClosed, Point, CanLeadTo}
use Rattle.queue_calls.specs.InTurn.{UnderWay, NoCall, APut, AClose, ATake, Sides, sides, Turns}
use Rattle.queue_calls.specs.declared.turns.PutTurn.{PutTurn}
use Rattle.queue_calls.specs.declared.turns.PutTurn.TheVariants.{Free, Offers, Late, Closes}
use Rattle.queue_calls.specs.declared.turns.TakeTurn.{TakeTurn}
use Rattle.queue_calls.specs.declared.turns.TakeTurn.TheVariants.{Rests, Waits}

-- a capacity that a queue may have: it may hold one item, and the most is no fewer than the full number
abbrev pub IsProper : Capacity → Type 0
IsProper Unbounded = Unit {0}
IsProper (Between full most) = (0 < most) × (full ≤ most)

-- a queue may have this many items inside
abbrev pub MayHold : Capacity → ℕ → Type 0
MayHold Unbounded inside = Unit {0}
MayHold (Between full most) inside = inside ≤ most

-- the items that the take under way has taken
abbrev pub taken_by : Consumer → List ℕ
taken_by Resting = []
taken_by (Taking lacked took left) = took
taken_by FoundClosed = []

-- the items that the put under way still offers, if it began before a close had ended
abbrev pub left_by : PutTurn → Producer → List ℕ
left_by (Offers offered before) (Putting lacked done left) = left
left_by _ _ = []

-- a put before which `before` items were inside may have found no room for `lacked` more; 0 if it found none
abbrev pub MayLack : Capacity → (before lacked : ℕ) → Type 0
MayLack capacity before lacked = (lacked ≡ 0) ⊎ LacksRoom capacity before lacked

-- a take before which `before` items were inside may have found fewer than `lacked`, and more to come; 0 if it did not
abbrev pub MayFindFewer : (before : ℕ) (ended : Bool) (lacked : ℕ) → Type 0
MayFindFewer before ended lacked = (lacked ≡ 0) ⊎ ((before < lacked) × (ended ≡ true → 0 < before))

-- the states the producer may be in
abbrev pub FitsPut : Capacity → PutTurn → Bool → Producer → Bool → Type 0
FitsPut capacity Free shut Idle closed = closed ≡ shut
FitsPut capacity (Offers offered before) shut (Putting lacked done left) closed = (done + length left ≡ offered) × (closed ≡ false) × MayLack capacity before lacked
FitsPut capacity (Late offered) shut (Putting lacked done left) closed = (lacked ≡ 0) × (done ≡ 0) × (closed ≡ true)
FitsPut capacity (Late offered) shut FoundShut closed = closed ≡ true
FitsPut capacity (Closes again) shut (Closing done) closed = (again ≡ false → closed ≡ done) × (shut ≡ true → closed ≡ true)
FitsPut _ _ _ _ _ = ⊥

-- the states the consumer may be in
abbrev pub FitsTake : TakeTurn → Consumer → Queue → Type 0
FitsTake Rests Resting q = Unit {0}
FitsTake (Waits wanted before ended) (Taking lacked took left) q = (length took + left ≡ wanted) × MayFindFewer before ended lacked
FitsTake (Waits wanted before ended) FoundClosed q = IsDrained q
FitsTake _ _ _ = ⊥

-- a point is described by what an auditor keeps: the items inside, with those offered by the put under way
pub record Describes (capacity : Capacity) (inside : List ℕ) (put : PutTurn) (take : TakeTurn) (shut : Bool) (s : Point) : Type 0 where
  pub items : inside ≡ taken_by s.consumer ++ (s.queue.items ++ left_by put s.producer)
  pub room : MayHold capacity (length s.queue.items)
  pub producer : FitsPut capacity put shut s.producer s.queue.closed
  pub consumer : FitsTake take s.consumer s.queue

-- how many items the put under way offered
abbrev pub offered_by : PutTurn → ℕ
offered_by (Offers offered before) = offered
offered_by _ = 0

-- how many items the take under way may have taken
abbrev pub asked_by : TakeTurn → ℕ
asked_by Rests = 0
asked_by (Waits wanted before ended) = wanted

-- whether a close has begun
abbrev pub has_closed : PutTurn → Bool → Bool
has_closed (Closes again) shut = true
has_closed _ shut = shut

-- at least as many items were inside before a put as are inside now, not counting its own
abbrev pub IsSoundPut : ℕ → PutTurn → Bool → Type 0
IsSoundPut inside Free shut = Unit {0}
IsSoundPut inside (Offers offered before) shut = (shut ≡ false) × (inside ≤ before + offered)
IsSoundPut inside (Late offered) shut = shut ≡ true
IsSoundPut inside (Closes again) shut = again ≡ true → shut ≡ true

-- at least as many items are inside now as before the take, not counting those of a put under way; and no more, if a close had ended
abbrev pub IsSoundTake : (offered inside : ℕ) → TakeTurn → Bool → Type 0
IsSoundTake offered inside Rests shut = Unit {0}
IsSoundTake offered inside (Waits wanted before ended) shut = (before ≤ inside - offered) × (ended ≡ true → (shut ≡ true) × (inside ≤ before))

-- what is kept determines the point, together with the items of a put that began after a close
abbrev pub TellsPoint : List ℕ → PutTurn → Producer → Type 0
TellsPoint late (Late offered) (Putting lacked done left) = left ≡ late
TellsPoint late _ _ = Unit {0}

-- items are the next ones
abbrev pub AreNext : List ℕ → List ℕ → Type 0
AreNext items inside = (rest : List ℕ) × (inside ≡ items ++ rest)

-- the put under way can end without its last `rest` items: they are inside, and the others can be in the queue or taken
abbrev pub CanEndPut : Capacity → (inside asked rest : ℕ) → Type 0
CanEndPut capacity inside asked rest = (rest ≤ inside) × MayHold capacity ((inside - rest) - asked)

-- the take under way can end with `count` items: the others can be in the queue or still offered by the put under way
abbrev pub CanEndTake : Capacity → (inside offered count : ℕ) → Type 0
CanEndTake capacity inside offered count = MayHold capacity ((inside - count) - offered)

-- the producer's call under way
abbrev pub call_of_put : PutTurn → UnderWay
call_of_put Free = NoCall
call_of_put (Offers offered before) = APut offered
call_of_put (Late offered) = APut offered
call_of_put (Closes again) = AClose

-- the consumer's call under way
abbrev pub call_of_take : TakeTurn → UnderWay
call_of_take Rests = NoCall
call_of_take (Waits wanted before ended) = ATake wanted

-- the calls under way of both sides
abbrev pub sides_of : PutTurn → TakeTurn → Sides
sides_of put take = sides (call_of_put put) (call_of_take take)

-- after a history, what an auditor keeps describes exactly the points to which the history can lead, and there is one
pub record Keeps (capacity : Capacity) (h : List Event) (inside : List ℕ) (put : PutTurn) (take : TakeTurn) (shut : Bool) : Type 0 where
  pub proper : IsProper capacity
  pub turns : Turns (sides NoCall NoCall) h (sides_of put take)
  pub few : MayHold capacity (length inside - (offered_by put + asked_by take))
  pub put_ok : IsSoundPut (length inside) put shut
  pub take_ok : IsSoundTake (offered_by put) (length inside) take shut
  pub late : List ℕ
  pub sound : (s : Point) → Describes capacity inside put take shut s → TellsPoint late put s.producer → CanLeadTo capacity h s
  pub complete : (s : Point) → CanLeadTo capacity h s → Describes capacity inside put take shut s
