-- The puts: how they end.
use Rattle.std.proofs.Common.{◌≡◌, ◌⊎◌, inl, inr, ℕ, ◌+◌, ◌-◌, ◌≤◌, Bool, true, false, List, [], ◌++◌, length, take, drop, refl, sym, subst, ◌∙◌, arith, length-append, length-drop, append_assoc}
use Rattle.std.proofs.lemmas.List.{append-nil, take-append-drop, length-take-le}
use Rattle.std.proofs.Math.Seq.{take-append_seam}
use Rattle.queue_calls.proofs.Common.{Capacity, Queue, Free, Offers, Late, TakeTurn, taken_by, FitsPut, FitsTake, asked_by, IsSoundTake, MayLack, CanEndPut, TellsPoint, Keeps}
use Rattle.queue_calls.specs.Calls.{Event, PutEnd, Reply, Nothing, Shut, passed, is_shut, CanReply, lacked_by, Happens, Producer, Idle, Putting, Consumer, ProducerStep, point}
use Rattle.queue_calls.proofs.Replies.{few}
use Rattle.queue_calls.proofs.Rooms.{holds_fewer}
use Rattle.queue_calls.proofs.Points.{happens}
use Rattle.queue_calls.proofs.Effects.{described_at}
use Rattle.queue_calls.proofs.Keeping.{Accepts, accept}
use Rattle.queue_calls.proofs.Sides.{free_idle, with_producer}

-- the front of a list in three parts, without the last part
front_of : (xs a b c : List ℕ) (n : ℕ) → xs ≡ a ++ (b ++ c) → n + length c ≡ length xs → take n xs ≡ a ++ (b ++ [])
front_of xs a b c n e l = grind (arith, append_assoc a b c, length (a ++ b), length-append (a ++ b) c, take, take-append_seam (a ++ b) c, append-nil b)

-- and joined again
whole_of : (xs a b : List ℕ) (n : ℕ) → take n xs ≡ a ++ (b ++ []) → xs ≡ a ++ (b ++ drop n xs)
whole_of xs a b n e = grind (arith, take, append-nil, take-append-drop, drop, append_assoc)

pub few_taken : (turn : TakeTurn) (c : Consumer) (q : Queue) → FitsTake turn c q → length (taken_by c) ≤ asked_by turn
few_taken turn c q f = grind arith

module _ (capacity : Capacity) (h : List Event) (inside : List ℕ) (take' : TakeTurn) (shut : Bool) where
  take_stays : (offered n m : ℕ) (t : TakeTurn) → n - offered ≤ m → shut ≡ false → IsSoundTake offered n t shut → IsSoundTake 0 m t shut
  take_stays offered n m t l o f = grind arith

  -- a put that began before a close had ended
  module _ (offered before : ℕ) (k : Keeps capacity h inside (Offers offered before) take' shut) (reply : Reply ℕ) where
    pub put_ends :
        is_shut reply ≡ false → CanReply reply (passed 0 reply) offered → MayLack capacity before (lacked_by reply (passed 0 reply) (offered - passed 0 reply)) →
        CanEndPut capacity (length inside) (asked_by take') (offered - passed 0 reply) →
        Accepts capacity h (PutEnd reply) (take (length inside - (offered - passed 0 reply)) inside) Free take' shut
    put_ends open' within lacks fits =
        let done : ℕ = passed 0 reply in
        let rest : ℕ = offered - done in
        let sum : done + rest ≡ offered = omega (arith, few (λ n. n) 0 reply offered refl within) in
        let kept : ℕ = length inside - rest in
        let long : length (take kept inside) ≡ kept = length-take-le kept inside (omega arith) in
        accept capacity h (PutEnd reply) inside (take kept inside) (Offers offered before) Free take' take' shut shut [] k (offered, refl, within, refl)
        (holds_fewer capacity (length (take kept inside) - (0 + asked_by take')) ((length inside - rest) - asked_by take') (omega (arith, long)) fits.1) tt
        (take_stays offered (length inside) (length (take kept inside)) take' (omega (arith, long, sum)) k.put_ok.0 k.take_ok)
        (λ s t d m. elim m.producer.0 [
          | inl (o, left, w, ep) ↦ (
              let d' = with_producer capacity inside (Offers offered before) take' shut s d (Putting (lacked_by reply done (length left)) done left) ep in
              described_at capacity (take kept inside) Free take' shut t s.queue Idle s.consumer m.queue m.producer.1 m.consumer
              (record {
                items = front_of inside (taken_by s.consumer) s.queue.items left kept d'.items (omega (arith, fits.0, sum, d'.producer.0));
                room = d'.room;
                producer = d'.producer.1 ∙ sym k.put_ok.0;
                consumer = d'.consumer;
              }))
          | inr (o, ep) ↦ absurd cc
        ])
        (λ t d told.
        let (ep, ec) = free_idle capacity shut t.queue.closed t.producer d.producer in
        let left : List ℕ = drop kept inside in
        let all : length left ≡ rest = omega (arith, length-drop kept inside, fits.0) in
        let d' = with_producer capacity (take kept inside) Free take' shut t d Idle ep in
        let was : Producer = Putting (lacked_by reply done (length left)) done left in
        happens capacity h (point t.queue was t.consumer) t (PutEnd reply)
        (k.sound (point t.queue was t.consumer)
        (record {
          items = whole_of inside (taken_by t.consumer) t.queue.items kept d'.items;
          room = d.room;
          producer = (omega (arith, all, sum), ec ∙ k.put_ok.0, subst (λ z. MayLack capacity before (lacked_by reply done z)) (sym all) lacks);
          consumer = d.consumer;
        }) tt)
        (record { queue = refl; producer = (inl (open', left, subst (λ z. CanReply reply done z) (omega (arith, all, sum)) within, refl), ep); consumer = refl }))

  -- and one that began after it
  module _ (offered : ℕ) (k : Keeps capacity h inside (Late offered) take' shut) where
    -- what the put was at before such an end
    was_late :
        (reply : Reply ℕ) (closed : Bool) → (reply ≡ Nothing) ⊎ (reply ≡ Shut) → closed ≡ true →
        (p : Producer) × FitsPut capacity (Late offered) shut p closed × TellsPoint k.late (Late offered) p × ProducerStep p (Happens (PutEnd reply)) Idle × CanReply reply (passed 0 reply) offered
    was_late reply closed (inl is) e =
        subst (λ z. (p : Producer) × FitsPut capacity (Late offered) shut p closed × TellsPoint k.late (Late offered) p × ProducerStep p (Happens (PutEnd z)) Idle × CanReply z (passed 0 z) offered) (sym is)
        (Putting 0 0 k.late, (refl, refl, e), refl, (inl (refl, k.late, tt, refl), refl), tt)
    was_late reply closed (inr is) e = grind arith

    late_is : (p : Producer) (closed : Bool) → FitsPut capacity (Late offered) shut p closed → closed ≡ true
    late_is p closed f = grind arith

    pub late_ends : (reply : Reply ℕ) → (reply ≡ Nothing) ⊎ (reply ≡ Shut) → Accepts capacity h (PutEnd reply) inside Free take' shut
    late_ends reply none =
        accept capacity h (PutEnd reply) inside inside (Late offered) Free take' take' shut shut [] k (offered, refl, (was_late reply true none refl).4, refl) k.few tt k.take_ok
        (λ s t d m.
        described_at capacity inside Free take' shut t s.queue Idle s.consumer m.queue m.producer.1 m.consumer
        (record { items = d.items; room = d.room; producer = late_is s.producer s.queue.closed d.producer ∙ sym k.put_ok; consumer = d.consumer }))
        (λ t d told.
        let (ep, ec) = free_idle capacity shut t.queue.closed t.producer d.producer in
        let d' = with_producer capacity inside Free take' shut t d Idle ep in
        let (was, fits, tells, step, within) = was_late reply t.queue.closed none (ec ∙ k.put_ok) in
        happens capacity h (point t.queue was t.consumer) t (PutEnd reply)
        (k.sound (point t.queue was t.consumer) (record { items = d'.items; room = d.room; producer = fits; consumer = d.consumer }) tells)
        (record { queue = refl; producer = (step.0, ep); consumer = refl }))
