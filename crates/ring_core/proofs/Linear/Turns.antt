-- The operations of the two sides with their numbers, and which of one side must precede which of the other.
use Rattle.std.proofs.Common.{◌≡◌, ◌⊎◌, inl, inr, ℕ, ◌+◌, ◌<◌, ◌≤◌, List, [], ◌∷◌, arith}
use Rattle.ring_core.proofs.Common.{Side, P, C, clock, TimedOperation}
use Rattle.bits_core.specs.declared.events.Event.{Event}
use Rattle.queue_calls.specs.Queue.{Operation, Enqueue, FindFull, Close, Dequeue, FindEmpty, FindClosed}
use Rattle.ring_core.proofs.Readings.Cuts.{at_most_or_above}

-- x is in the list
abbrev pub In : {A : Type 0} → A → List A → Type 0
In x [] = ⊥
In x (y ∷ ys) = (x ≡ y) ⊎ In x ys

-- what an operation of a side does: it puts or takes an item, finds the queue full or empty, closes it, or finds it closed
pub data Kind : Type 0 where
  Moves : (item : ℕ) → Kind
  Misses : Kind
  Ends : Kind

abbrev pub IsMove : Kind → Type 0
IsMove (Moves item) = Unit {0}
IsMove Misses = ⊥
IsMove Ends = ⊥

abbrev pub IsMiss : Kind → Type 0
IsMiss (Moves item) = ⊥
IsMiss Misses = Unit {0}
IsMiss Ends = ⊥

abbrev pub IsEnd : Kind → Type 0
IsEnd (Moves item) = ⊥
IsEnd Misses = ⊥
IsEnd Ends = Unit {0}

abbrev pub put_does : Kind → Operation
put_does (Moves item) = Enqueue item
put_does Misses = FindFull
put_does Ends = Close

abbrev pub take_does : Kind → Operation
take_does (Moves item) = Dequeue item
take_does Misses = FindEmpty
take_does Ends = FindClosed

-- an operation of a side, after this many items that the side put or took; of the consumer's, also the place where it begins
pub record Op : Type 0 where
  pub number : ℕ
  pub kind : Kind
  pub start : ℕ
  pub stop : ℕ
  pub place : ℕ

abbrev pub operation : Side → ℕ → ℕ → Operation → TimedOperation
operation side start stop does = record { side = side; does = does; start = start; stop = stop }

abbrev pub put_op : Op → TimedOperation
put_op x = operation P x.start x.stop (put_does x.kind)

abbrev pub take_op : Op → TimedOperation
take_op y = operation C y.start y.stop (take_does y.kind)

-- what holds for the counts of both sides, given how many have begun and ended within their own events
pub record Tallies (h : List Event) (capacity : ℕ) (puts_begun puts_ended takes_begun takes_ended : ℕ → ℕ) : Type 0 where
  pub has_cell : 1 ≤ capacity
  pub few : (t : ℕ) → takes_begun (clock C h t) ≤ puts_begun (clock P h t)
  pub room : (t : ℕ) → puts_begun (clock P h t) ≤ takes_begun (clock C h t) + capacity
  pub puts_end : (i : ℕ) → puts_ended i ≤ puts_begun i
  pub takes_end : (i : ℕ) → takes_ended i ≤ takes_begun i
  pub up_p : (t u : ℕ) → t ≤ u → clock P h t ≤ clock P h u
  pub up_c : (t u : ℕ) → t ≤ u → clock C h t ≤ clock C h u

-- what holds for an operation of the producer, whose puts have `events` events
pub record PutFact (h : List Event) (capacity events : ℕ) (puts_begun puts_ended takes_ended : ℕ → ℕ) (x : Op) : Type 0 where
  pub some : x.start < x.stop
  pub begins : x.start ≤ events
  pub not_begun : (i : ℕ) → i ≤ x.start → puts_begun i ≤ x.number
  pub ended : IsMove x.kind → (i : ℕ) → x.stop ≤ i → x.number < puts_ended i
  pub full : IsMiss x.kind → (t : ℕ) → clock P h t ≤ x.start → takes_ended (clock C h t) + capacity ≤ x.number
  pub close : IsEnd x.kind → events + 2 ≤ x.stop

-- what holds for one of the consumer, if this many items were stored
pub record TakeFact (h : List Event) (events stored : ℕ) (puts_ended takes_begun takes_ended : ℕ → ℕ) (y : Op) : Type 0 where
  pub some : y.start < y.stop
  pub at_place : clock C h y.place ≡ y.start
  pub last_place : (t : ℕ) → clock C h t ≤ y.start → t ≤ y.place
  pub not_begun : (i : ℕ) → i ≤ y.start → takes_begun i ≤ y.number
  pub ended : IsMove y.kind → (i : ℕ) → y.stop ≤ i → y.number < takes_ended i
  pub empty : IsMiss y.kind → (puts_ended (clock P h y.place) ≤ y.number) × (clock P h y.place < events + 2)
  pub told : IsEnd y.kind → (t : ℕ) → y.stop ≤ clock C h t → events < clock P h t
  pub all : IsEnd y.kind → y.number ≡ stored

-- an operation of a side is another, or precedes it
pub record GoesTo (x x' : Op) : Type 0 where
  pub start : x.start ≤ x'.start
  pub stop : x.stop ≤ x'.stop
  pub number : x.number ≤ x'.number
  pub miss : IsMove x.kind → IsMiss x'.kind → (x.number < x'.number) × (x.stop ≤ x'.start)
  pub ends : IsEnd x.kind → IsEnd x'.kind

pub move_not_miss : (k : Kind) → IsMove k → IsMiss k → ⊥
move_not_miss k a b = grind arith

pub move_not_end : (k : Kind) → IsMove k → IsEnd k → ⊥
move_not_end k a b = grind arith

end_not_miss : (k : Kind) → IsEnd k → IsMiss k → ⊥
end_not_miss k a b = grind arith

-- What the queue needs: number k is dequeued after it is enqueued, and after each operation that finds the queue full and would
-- find it not full without number k; the queue is found closed after all operations of the producer.
abbrev pub Needs : ℕ → Kind → ℕ → Kind → ℕ → Type 0
Needs capacity (Moves item) k (Moves item') n = n ≤ k
Needs capacity (Moves item) k Misses n = n ≤ k + capacity
Needs capacity (Moves item) k Ends n = ⊥
Needs capacity Misses k x n = ⊥
Needs capacity Ends k x n = Unit {0}

-- x must precede y: it ended before y began, or the queue needs it
abbrev pub Must : List Event → ℕ → Op → Op → Type 0
Must h capacity x y = (x.stop ≤ clock P h y.place) ⊎ Needs capacity y.kind y.number x.kind x.number

-- x may precede y
pub record May (h : List Event) (capacity : ℕ) (x : Op) (y : Op) : Type 0 where
  pub time : (t : ℕ) → y.stop ≤ clock C h t → clock P h t ≤ x.start → ⊥
  pub room : IsMove x.kind → x.number < y.number + capacity
  pub empty : IsMove x.kind → IsMiss y.kind → x.number < y.number
  pub opened : IsEnd x.kind → IsMiss y.kind → ⊥

decide_needs : (capacity k n : ℕ) (y : Kind) (x : Kind) → Needs capacity y k x n ⊎ (Needs capacity y k x n → ⊥)
decide_needs capacity k n (Moves item) (Moves item') = grind arith
decide_needs capacity k n (Moves item) Misses = grind arith
decide_needs capacity k n (Moves item) Ends = inr (λ a. absurd a)
decide_needs capacity k n Misses x = inr (λ a. absurd a)
decide_needs capacity k n Ends x = inl tt

decide_must : (h : List Event) (capacity : ℕ) (x : Op) (y : Op) → Must h capacity x y ⊎ (Must h capacity x y → ⊥)
decide_must h capacity x y = grind (arith, at_most_or_above, decide_needs)

-- one of some operations must precede y, or none must
abbrev pub FindsMust : List Event → ℕ → List Op → Op → Type 0
FindsMust h capacity xs y = (x : Op) × In x xs × Must h capacity x y

abbrev pub NoMust : List Event → ℕ → List Op → Op → Type 0
NoMust h capacity xs y = (x : Op) → In x xs → Must h capacity x y → ⊥

pub find_must : (h : List Event) (capacity : ℕ) (xs : List Op) (y : Op) → FindsMust h capacity xs y ⊎ NoMust h capacity xs y
find_must h capacity [] y = inr (λ x i m. absurd i)
find_must h capacity (x ∷ xs) y = grind (arith, decide_must h capacity x y, find_must h capacity xs y)

module _ (h : List Event) (capacity events stored : ℕ) (puts_begun puts_ended takes_begun takes_ended : ℕ → ℕ)
    (tallies : Tallies h capacity puts_begun puts_ended takes_begun takes_ended) where
  -- what ended before an operation of the consumer began may precede a later one
  may_by_time :
      (x x' : Op) (y y' : Op) → PutFact h capacity events puts_begun puts_ended takes_ended x →
      TakeFact h events stored puts_ended takes_begun takes_ended y → TakeFact h events stored puts_ended takes_begun takes_ended y' →
      GoesTo x x' → GoesTo y y' → x'.stop ≤ clock P h y.place → May h capacity x y'
  may_by_time x x' y y' px qy qy' xx yy l = grind (arith, at_most_or_above)

  -- and so may what the queue needs before it
  may_by_need :
      (x x' : Op) (y y' : Op) → PutFact h capacity events puts_begun puts_ended takes_ended x → PutFact h capacity events puts_begun puts_ended takes_ended x' →
      TakeFact h events stored puts_ended takes_begun takes_ended y → TakeFact h events stored puts_ended takes_begun takes_ended y' →
      GoesTo x x' → GoesTo y y' → (IsMove x.kind → x.number < stored) →
      (ky : Kind) (kx : Kind) → y.kind ≡ ky → x'.kind ≡ kx → Needs capacity ky y.number kx x'.number → May h capacity x y'
  may_by_need x x' y y' px px' qy qy' xx yy below ky kx ey ex l = grind (arith, at_most_or_above, end_not_miss)

  -- what precedes an operation that must precede y may precede each operation that does not precede y
  pub may :
      (x x' : Op) (y y' : Op) → PutFact h capacity events puts_begun puts_ended takes_ended x → PutFact h capacity events puts_begun puts_ended takes_ended x' →
      TakeFact h events stored puts_ended takes_begun takes_ended y → TakeFact h events stored puts_ended takes_begun takes_ended y' →
      GoesTo x x' → GoesTo y y' → (IsMove x.kind → x.number < stored) → Must h capacity x' y → May h capacity x y'
  may x x' y y' px px' qy qy' xx yy below h1 = grind (arith, may_by_time, may_by_need)
