-- What follows from capacities.
use Rattle.std.proofs.Common.{ℕ, suc, ◌-◌, ◌≤◌, arith}
use Rattle.queue_calls.specs.Queue.{Capacity, Unbounded, Between, HasRoom, LacksRoom}
use Rattle.queue_calls.specs.State.{IsProper, MayHold}

pub holds_fewer : (capacity : Capacity) (a b : ℕ) → a ≤ b → MayHold capacity b → MayHold capacity a
holds_fewer capacity a b l h = grind arith

pub room_for_one : (capacity : Capacity) (n : ℕ) → MayHold capacity (suc n) → HasRoom capacity n
room_for_one capacity n h = grind arith

pub holds_one_more : (capacity : Capacity) (n : ℕ) → HasRoom capacity n → MayHold capacity (suc n)
holds_one_more capacity n h = grind arith

pub room_at_first : (capacity : Capacity) → IsProper capacity → HasRoom capacity 0
room_at_first capacity p = grind arith

pub holds_none : (capacity : Capacity) → MayHold capacity 0
holds_none capacity = grind arith

pub lacks_with_more : (capacity : Capacity) (a b count : ℕ) → a ≤ b → LacksRoom capacity a count → LacksRoom capacity b count
lacks_with_more capacity a b count l h = grind arith

-- how many of a number of items the queue cannot have inside
abbrev pub over : Capacity → ℕ → ℕ
over Unbounded n = 0
over (Between full most) n = n - most

pub over_holds : (capacity : Capacity) (n : ℕ) → MayHold capacity (n - over capacity n)
over_holds capacity n = grind arith

pub over_least : (capacity : Capacity) (n m : ℕ) → MayHold capacity (n - m) → over capacity n ≤ m
over_least capacity n m h = grind arith

pub over_few : (capacity : Capacity) (n : ℕ) → over capacity n ≤ n
over_few capacity n = grind arith

-- a queue with as many as it can have inside lacks room for one more
pub over_lacks : (capacity : Capacity) (n count : ℕ) → IsProper capacity → LacksRoom capacity n (suc count) → LacksRoom capacity (n - over capacity n) (suc count)
over_lacks capacity n count p h = grind arith
