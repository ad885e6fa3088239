-- Operations that come one after the other at a queue, and some that do not; and what is counted in pasts, the last event first.
use Rattle.std.proofs.Common.{◌≡◌, true, false, [], ◌∷◌, length, refl, ap, arith}
use Rattle.queue_calls.specs.Queue.{Unbounded, Between, exactly, Enqueue, FindNoRoom, FindFull, FindShut, Close, Dequeue, FindFewer, FindEmpty, FindClosed, Queue, queue, IsLegal}
use Rattle.queue_calls.specs.Calls.{PutBegin, PutEnd, TakeBegin, TakeEnd, Passed}
use Rattle.queue_calls.specs.Reporting.{begun, full_ends, overlapped, under_way}

-- these come one after the other at a queue of capacity 1
some_legal : IsLegal (exactly 1) (queue [] false) (FindEmpty ∷ Enqueue 1 ∷ FindFull ∷ FindFewer 2 ∷ Close ∷ FindShut ∷ Dequeue 1 ∷ FindClosed ∷ [])
some_legal = (
  queue [] false,
  (omega arith, (λ d. let o : false ≡ true = d.1 in cc), refl),
  (
    queue (1 ∷ []) false,
    (omega arith, refl, refl),
    (
      queue (1 ∷ []) false,
      (omega arith, refl, refl),
      (
        queue (1 ∷ []) false,
        (omega arith, (λ d. let o : false ≡ true = d.1 in cc), refl),
        (
          queue (1 ∷ []) true,
          refl,
          (queue (1 ∷ []) true, (refl, refl), (queue [] true, (refl, refl), (queue [] true, ((refl, refl), refl), tt))),
        ),
      ),
    ),
  ),
)

-- a queue that may be full with one inside, or hold a second
between_legal : IsLegal (Between 1 2) (queue [] false) (FindNoRoom 2 ∷ Enqueue 1 ∷ FindFull ∷ Enqueue 2 ∷ [])
between_legal = grind arith

-- and these do not: two items with capacity 1, an unbounded queue that lacks room, one found empty with an item in it, and one closed
-- and empty that is found to have fewer than asked for
too_many : ¬ IsLegal (exactly 1) (queue [] false) (Enqueue 1 ∷ Enqueue 2 ∷ [])
too_many r = omega (arith, r.2.1.0, ap (λ (q : Queue). length q.items) r.1.2)

no_bound : ¬ IsLegal Unbounded (queue [] false) (FindNoRoom 9 ∷ [])
no_bound r = r.1.0

not_empty : ¬ IsLegal (exactly 1) (queue [] false) (Enqueue 1 ∷ FindEmpty ∷ [])
not_empty r = omega (arith, r.2.1.0, ap (λ (q : Queue). length q.items) r.1.2)

drained : ¬ IsLegal (exactly 1) (queue [] true) (FindFewer 2 ∷ [])
drained r = r.1.1 (refl, refl)

-- a put within a take: both calls have overlapped one of the other side; a second put within the same take: three have; takes that come
-- after a put: none have
within_one : overlapped (PutEnd (Passed 1 true) ∷ PutBegin (7 ∷ []) ∷ TakeBegin 1 ∷ []) ≡ 2
within_one = refl

within_both : overlapped (PutBegin (8 ∷ []) ∷ PutEnd (Passed 1 true) ∷ PutBegin (7 ∷ []) ∷ TakeBegin 1 ∷ []) ≡ 3
within_both = refl

one_behind : overlapped (TakeBegin 1 ∷ TakeEnd (Passed (7 ∷ []) true) ∷ TakeBegin 1 ∷ PutEnd (Passed 1 true) ∷ PutBegin (7 ∷ []) ∷ []) ≡ 0
one_behind = refl

-- a put of which only some items were stored counts as one that ended full
some_stored : full_ends (PutEnd (Passed 1 true) ∷ PutBegin (7 ∷ 8 ∷ []) ∷ []) ≡ 1
some_stored = refl

all_stored : full_ends (PutEnd (Passed 2 true) ∷ PutBegin (7 ∷ 8 ∷ []) ∷ []) ≡ 0
all_stored = refl

-- two calls that have begun and not ended
both_begun : begun (TakeBegin 1 ∷ PutBegin (7 ∷ []) ∷ []) ≡ 2
both_begun = refl

both_under_way : under_way (TakeBegin 1 ∷ PutBegin (7 ∷ []) ∷ []) ≡ 2
both_under_way = refl
