-- If an operation takes effect, what an auditor keeps describes the point that follows.
use Rattle.std.proofs.Common.{◌≡◌, ℕ, suc, ◌+◌, ◌<◌, ◌≤◌, Bool, true, false, List, [], ◌∷◌, ◌++◌, length, refl, arith, length-append, append_assoc}
use Rattle.queue_calls.proofs.Common.{Capacity, Enqueue, FindNoRoom, FindShut, Close, Dequeue, FindFewer, FindClosed, Queue, queue, Producer, Closing, Consumer, Taking, Point, point, PutTurn}
use Rattle.queue_calls.proofs.Common.{TakeTurn, left_by, FitsPut, FitsTake, Describes, offered_by, IsSoundPut, IsSoundTake}
use Rattle.queue_calls.proofs.Rooms.{holds_fewer, holds_one_more, lacks_with_more}
use Rattle.queue_calls.proofs.Points.{Stays}

-- a point, by its parts
pub described_at :
    (capacity : Capacity) (inside : List ℕ) (put : PutTurn) (take : TakeTurn) (shut : Bool) (t : Point) (q : Queue) (p : Producer) (c : Consumer) →
    t.queue ≡ q → t.producer ≡ p → t.consumer ≡ c → Describes capacity inside put take shut (point q p c) → Describes capacity inside put take shut t
described_at capacity inside put take shut t q p c eq ep ec d = grind arith

pub described_as :
    (capacity : Capacity) (inside : List ℕ) (put : PutTurn) (take : TakeTurn) (shut : Bool) (s : Point) (p : Producer) (c : Consumer) →
    s.producer ≡ p → s.consumer ≡ c → Describes capacity inside put take shut s → Describes capacity inside put take shut (point s.queue p c)
described_as capacity inside put take shut s p c ep ec d = grind arith

-- what the consumer found about an open queue is unchanged
pub fits_while_open : (take : TakeTurn) (c : Consumer) (q q' : Queue) → q.closed ≡ false → FitsTake take c q → FitsTake take c q'
fits_while_open take c q q' o f = grind arith

-- a take that found the same may have taken other items, with as many to come
pub fits_alike :
    (take : TakeTurn) (lacked : ℕ) (took took' : List ℕ) (left left' : ℕ) (q q' : Queue) → length took + left ≡ length took' + left' →
    FitsTake take (Taking lacked took left) q → FitsTake take (Taking lacked took' left') q'
fits_alike take lacked took took' left left' q q' e f = grind arith

some_items : (xs : List ℕ) → (xs ≡ [] → ⊥) → 0 < length xs
some_items [] n = absurd (n refl)
some_items (x ∷ xs) n = omega arith

module _ (capacity : Capacity) (inside : List ℕ) (take : TakeTurn) (shut : Bool) where
  abbrev Here : PutTurn → Point → Type 0
  Here put s = Describes capacity inside put take shut s

  close :
      (put : PutTurn) (q : Queue) (c : Consumer) → Here put (point q (Closing false) c) → Here put (point (queue q.items true) (Closing true) c)
  close put q c d = grind (arith)

  dequeue :
      (put : PutTurn) (q after : Queue) (p : Producer) (lacked : ℕ) (took : List ℕ) (left item : ℕ) → q.items ≡ item ∷ after.items → after.closed ≡ q.closed →
      Here put (point q p (Taking lacked took (suc left))) → Here put (point after p (Taking lacked (took ++ item ∷ []) left))
  dequeue put q after p lacked took left item e o d = grind (arith, append_assoc, holds_fewer, length, fits_alike, length-append)

  -- the items left are no more than those offered, and the queue that a put found before a close is open
  pub few_left : (put : PutTurn) (p : Producer) (closed : Bool) → FitsPut capacity put shut p closed → length (left_by put p) ≤ offered_by put
  few_left put p closed f = grind arith

  pub shut_closed : (n : ℕ) (put : PutTurn) (p : Producer) (closed : Bool) → IsSoundPut n put shut → FitsPut capacity put shut p closed → shut ≡ true → closed ≡ true
  shut_closed n put p closed ok f e = grind arith

  pub stays :
      (put : PutTurn) → IsSoundPut (length inside) put shut → IsSoundTake (offered_by put) (length inside) take shut →
      Stays capacity (Describes capacity inside put take shut)
  stays put ok took s t (Enqueue item) d l = search (arith, described_at, append_assoc, holds_fewer, length, length-append, holds_one_more, fits_while_open, described_as)
  stays put ok took s t (FindNoRoom count) d l = search (arith, described_at, length, length-append, lacks_with_more, described_as)
  stays put ok took s t FindShut d l = grind (arith, described_at, described_as)
  stays put ok took s t Close d l = grind (arith, described_at, close, described_as)
  stays put ok took s t (Dequeue item) d l =
      let (lacked, items, left, ec, ec') = l.consumer in
      let (e, o) = l.queue in
      described_at capacity inside put take shut t t.queue s.producer (Taking lacked (items ++ item ∷ []) left) refl l.producer ec'
      (dequeue put s.queue t.queue s.producer lacked items left item e o (described_as capacity inside put take shut s s.producer (Taking lacked items (suc left)) refl ec d))
  stays put ok took s t (FindFewer count) d l = grind (arith, described_at, length, length-append, few_left, shut_closed, some_items, described_as)
  stays put ok took s t FindClosed d l = grind (arith, described_at, described_as)
