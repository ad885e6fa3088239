-- The events of a linearizable history can be counted.
use Rattle.std.proofs.Common.{◌≡◌, ◌⊎◌, inl, inr, ℕ, ◌+◌, ◌-◌, Bool, true, false, List, [], ◌∷◌, ◌++◌, length, drop, refl, sym, subst, arith, length-append, append_assoc}
use Rattle.queue_calls.proofs.Common.{cases_Bool, Capacity, Queue, IsDrained, Event, PutBegin, PutEnd, CloseBegin, CloseEnd, TakeBegin, TakeEnd, passed, CanReply, lacked_by, Happens, Producer, Idle}
use Rattle.queue_calls.proofs.Common.{Putting, FoundShut, Consumer, Resting, Taking, FoundClosed, Point, point, Leads, IsLinearizable, PutTurn, Free, Offers, Late, Closes, TakeTurn, Rests, Waits}
use Rattle.queue_calls.proofs.Common.{MayLack, MayFindFewer, FitsPut, FitsTake, Describes, offered_by, asked_by, IsSoundPut, AreNext, CanEndPut, CanEndTake}
use Rattle.queue_calls.specs.Counting.{Kept, kept, without, Counts, AreCounted, CountsAreExact}
use Rattle.queue_calls.proofs.Replies.{none_is, shut_is}
use Rattle.queue_calls.proofs.Rooms.{holds_fewer}
use Rattle.queue_calls.proofs.Points.{last_event, beginning}
use Rattle.queue_calls.proofs.Effects.{few_left}
use Rattle.queue_calls.proofs.Sides.{with_producer, with_consumer}
use Rattle.queue_calls.proofs.Ends.PutEnds.{few_taken}
use Rattle.queue_calls.proofs.Ends.TakeBegins.{keeps_nothing}
use Rattle.queue_calls.proofs.Ends.TakeEnds.{closed_left}
use Rattle.queue_calls.proofs.CountedHistories.{Stands, counts_keeps, counted_is_linearizable}

-- what a put under way implies about what is kept: it began before a close had ended, or after
abbrev Tells : Capacity → List ℕ → PutTurn → TakeTurn → (lacked done : ℕ) → List ℕ → Type 0
Tells capacity inside put take lacked done left =
    ((offered before : ℕ) × (put ≡ Offers offered before) × (done + length left ≡ offered) × MayLack capacity before lacked ×
    CanEndPut capacity (length inside) (asked_by take) (length left)) ⊎
    ((offered : ℕ) × (put ≡ Late offered) × (lacked ≡ 0) × (done ≡ 0))

module _ (capacity : Capacity) (inside : List ℕ) (take' : TakeTurn) (shut : Bool) (q : Queue) where
  put_tells : (put : PutTurn) (c : Consumer) (lacked done : ℕ) (left : List ℕ) → Describes capacity inside put take' shut (point q (Putting lacked done left) c) → Tells capacity inside put take' lacked done left
  put_tells put c lacked done left d = grind (arith, length, length-append, few_taken, holds_fewer)

  idle_tells : (put : PutTurn) (closed : Bool) → FitsPut capacity put shut Idle closed → put ≡ Free
  idle_tells put closed f = grind arith

  shut_tells : (put : PutTurn) (closed : Bool) → FitsPut capacity put shut FoundShut closed → (offered : ℕ) × (put ≡ Late offered)
  shut_tells put closed f = grind arith

pub resting_tells : (take : TakeTurn) (q : Queue) → FitsTake take Resting q → take ≡ Rests
resting_tells take q f = grind arith

taking_tells :
    (take : TakeTurn) (q : Queue) (lacked : ℕ) (took : List ℕ) (left : ℕ) → FitsTake take (Taking lacked took left) q →
    (wanted before : ℕ) × (ended : Bool) × (take ≡ Waits wanted before ended) × (length took + left ≡ wanted) × MayFindFewer before ended lacked
taking_tells take q lacked took left f = grind arith

drained_tells : (take : TakeTurn) (q : Queue) → FitsTake take FoundClosed q → (wanted before : ℕ) × (ended : Bool) × (take ≡ Waits wanted before ended) × IsDrained q
drained_tells take q f = grind arith

-- a take took the next items, and can end with them
can_end_take :
    (capacity : Capacity) (inside : List ℕ) (put : PutTurn) (take : TakeTurn) (shut : Bool) (q : Queue) (p : Producer) (lacked : ℕ) (took : List ℕ) (left : ℕ) →
    Describes capacity inside put take shut (point q p (Taking lacked took left)) → AreNext took inside × CanEndTake capacity (length inside) (offered_by put) (length took)
can_end_take capacity inside put take shut q p lacked took left d = grind (arith, length, few_left, holds_fewer, length-append)

-- an event that leads from a point that is described can be counted
module _ (capacity : Capacity) (k : Kept) (sound : IsSoundPut (length k.inside) k.put k.shut) (s t : Point) (d : Describes capacity k.inside k.put k.take k.shut s) where
  abbrev CanCount : Event → Type 0
  CanCount event = (after : Kept) × Counts capacity k event after

  as_put : (p : Producer) → s.producer ≡ p → Describes capacity k.inside k.put k.take k.shut (point s.queue p s.consumer)
  as_put p e = with_producer capacity k.inside k.put k.take k.shut s d p e

  as_take : (c : Consumer) → s.consumer ≡ c → Describes capacity k.inside k.put k.take k.shut (point s.queue s.producer c)
  as_take c e = with_consumer capacity k.inside k.put k.take k.shut s d c e

  tells : (lacked done : ℕ) (left : List ℕ) → s.producer ≡ Putting lacked done left → Tells capacity k.inside k.put k.take lacked done left
  tells lacked done left e = put_tells capacity k.inside k.take k.shut s.queue k.put s.consumer lacked done left (as_put (Putting lacked done left) e)

  free : s.producer ≡ Idle → k.put ≡ Free
  free e = idle_tells capacity k.inside k.take k.shut s.queue k.put s.queue.closed (as_put Idle e).producer

  -- a put ends, by how many items it has left
  ends_put : (rest left : ℕ) → left ≡ rest → CanEndPut capacity (length k.inside) (asked_by k.take) left → CanEndPut capacity (length k.inside) (asked_by k.take) rest
  ends_put rest left e f = let F : ℕ → Type 0 = λ z. CanEndPut capacity (length k.inside) (asked_by k.take) z in subst F e f

  pub leads_counts : (event : Event) → Leads capacity s (Happens event) t → CanCount event
  leads_counts (PutBegin items) m =
      let (ep, some, ep') = m.producer in
      elim (cases_Bool k.shut) [
        | inl e ↦ (kept k.inside (Late (length items)) k.take true, (free ep, some, inr (e, refl)))
        | inr e ↦ (kept (k.inside ++ items) (Offers (length items) (length k.inside)) k.take false, (free ep, some, inl (e, refl)))
      ]
  leads_counts (PutEnd reply) m = elim m.producer.0 [
    | inl (open', left, within, ep) ↦ (
        let done : ℕ = passed 0 reply in
        elim (tells (lacked_by reply done (length left)) done left ep) [
          | inl (offered, before, is, sum, lacks, fits) ↦ (
              let rest : length left ≡ offered - done = omega (arith, sum) in (
                kept (without (offered - done) k.inside) Free k.take k.shut,
                inl (
                  offered,
                  before,
                  is,
                  open',
                  subst (λ z. CanReply reply done z) sum within,
                  subst (λ z. MayLack capacity before (lacked_by reply done z)) rest lacks,
                  (ends_put (offered - done) (length left) rest fits, refl),
                ),
              ))
          | inr (offered, is, none, nothing) ↦
              (kept k.inside Free k.take k.shut, inr (offered, is, none_is reply (done + length left) (length left) (omega arith) within none nothing, refl))
        ])
    | inr (shuts, ep) ↦ (
        let (offered, is) = shut_tells capacity k.inside k.take k.shut s.queue k.put s.queue.closed (as_put FoundShut ep).producer in
        (kept k.inside Free k.take k.shut, inr (offered, is, inr (shut_is reply shuts), refl)))
  ]
  leads_counts CloseBegin m = (kept k.inside (Closes k.shut) k.take k.shut, (free m.producer.0, refl))
  leads_counts CloseEnd m = grind (arith, as_put)
  leads_counts (TakeBegin wanted) m = grind (arith, length, resting_tells, as_take)
  leads_counts (TakeEnd reply) m = elim m.consumer.0 [
    | inl (open', left, within, ec) ↦ (
        let took : List ℕ = passed [] reply in
        let d' = as_take (Taking (lacked_by reply (length took) left) took left) ec in
        let (wanted, before, ended, is, sum, fewer) = taking_tells k.take s.queue (lacked_by reply (length took) left) took left d'.consumer in
        let next = can_end_take capacity k.inside k.put k.take k.shut s.queue s.producer (lacked_by reply (length took) left) took left d' in
        let rest : left ≡ wanted - length took = omega (arith, sum) in
        (kept (drop (length took) k.inside) k.put Rests k.shut, (wanted, before, ended, is, inl (grind (arith)))))
    | inr (shuts, ec) ↦ (
        let d' = as_take FoundClosed ec in
        let (wanted, before, ended, is, drained) = drained_tells k.take s.queue d'.consumer in
        let (left, begun) = closed_left capacity k.shut s.queue.closed k.put s.producer (length k.inside) sound d'.producer drained.1 in
        (kept [] k.put Rests true, (wanted, before, ended, is, inr (shuts, grind (arith, d'.items, left, drained.0), begun, refl))))
  ]

-- the last event of a linearizable history leads from a point that is described
abbrev LeadsOn : Capacity → Kept → Event → Type 0
LeadsOn capacity k event = (s t : Point) × Describes capacity k.inside k.put k.take k.shut s × Leads capacity s (Happens event) t

pub leads_on : (capacity : Capacity) (h : List Event) (k : Kept) (event : Event) → Stands capacity h k → IsLinearizable capacity (h ++ event ∷ []) → LeadsOn capacity k event
leads_on capacity h k event j (t, r) = last_event capacity h event (λ _. LeadsOn capacity k event) (λ s u e p l. p) (λ s u q l. (s, u, j.complete s q, l)) t r

counts_follow : (capacity : Capacity) (events h : List Event) (k : Kept) → Stands capacity h k → IsLinearizable capacity (h ++ events) → AreCounted capacity k events
counts_follow capacity [] h k j l = tt
counts_follow capacity (event ∷ events) h k j l =
    let l' : IsLinearizable capacity ((h ++ event ∷ []) ++ events) = subst (λ z. IsLinearizable capacity z) (sym (append_assoc h (event ∷ []) events)) l in
    let (s, t, d, m) = leads_on capacity h k event j (beginning capacity (h ++ event ∷ []) events l') in
    let (after, now) = leads_counts capacity k j.put_ok s t d event m in
    (after, now, counts_follow capacity events (h ++ event ∷ []) after (counts_keeps capacity h k j event after now) l')

pub counts_are_exact : CountsAreExact
counts_are_exact capacity h proper = grind (arith, counted_is_linearizable, counts_follow, keeps_nothing)
