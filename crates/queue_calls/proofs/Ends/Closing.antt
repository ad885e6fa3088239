-- The closes: how they begin and end.
use Rattle.std.proofs.Common.{◌≡◌, ◌⊎◌, inl, inr, ℕ, Bool, true, false, List, [], ◌∷◌, ◌++◌, length, refl, sym, ap, subst, ◌∙◌, arith}
use Rattle.queue_calls.proofs.Common.{Capacity, Queue, queue, IsDrained, Close, FindClosed, Event, CloseBegin, CloseEnd, Idle, Closing, Consumer, Resting, Taking, FoundClosed, Point, point, CanLeadTo}
use Rattle.queue_calls.proofs.Common.{Free, Closes, TakeTurn, Rests, Waits, taken_by, FitsTake, Describes, IsSoundTake, Keeps}
use Rattle.queue_calls.proofs.Points.{goes, happens}
use Rattle.queue_calls.proofs.Effects.{described_at}
use Rattle.queue_calls.proofs.Keeping.{Accepts, accept}
use Rattle.queue_calls.proofs.Sides.{free_idle, closes_closing, with_producer}

-- what the consumer found, or may find later, of the queue before it was closed
record Earlier (take : TakeTurn) (c : Consumer) (q : Queue) : Type 0 where
  before : Consumer
  same : taken_by before ≡ taken_by c
  fits : FitsTake take before (queue q.items false)
  later : (before ≡ c) ⊎ ((wanted : ℕ) × (before ≡ Taking 0 [] wanted) × (c ≡ FoundClosed) × IsDrained q)

earlier : (take : TakeTurn) (c : Consumer) (q : Queue) → FitsTake take c q → Earlier take c q
earlier Rests Resting q f = record { before = Resting; same = refl; fits = tt; later = inl refl }
earlier Rests (Taking lacked took left) q f = absurd f
earlier Rests FoundClosed q f = absurd f
earlier (Waits wanted before ended) Resting q f = absurd f
earlier (Waits wanted before ended) (Taking lacked took left) q f = record { before = Taking lacked took left; same = refl; fits = f; later = inl refl }
earlier (Waits wanted before ended) FoundClosed q f = record { before = Taking 0 [] wanted; same = refl; fits = (omega arith, inl refl); later = inr (wanted, refl, refl, f) }

-- a queue that is closed, and one that is open
as_closed : (q : Queue) (b : Bool) → q.closed ≡ b → q ≡ queue q.items b
as_closed q b e = let F : Bool → Type 0 = λ z. queue q.items z ≡ queue q.items b in subst F (sym e) refl

module _ (capacity : Capacity) (h : List Event) (inside : List ℕ) (take' : TakeTurn) where
  -- the close took effect already, after its start
  took_effect :
      Keeps capacity h inside Free take' false → (t : Point) → t.producer ≡ Closing true → t.queue.closed ≡ true →
      Describes capacity inside (Closes false) take' false (point t.queue (Closing true) t.consumer) →
      CanLeadTo capacity (h ++ CloseBegin ∷ []) t
  took_effect k t ep ec d =
      let w : Earlier take' t.consumer t.queue = earlier take' t.consumer t.queue d.consumer in
      let s : Point = point (queue t.queue.items false) Idle w.before in
      let r : CanLeadTo capacity h s =
      k.sound s (record { items = d.items ∙ ap (λ z. z ++ (t.queue.items ++ [])) (sym w.same); room = d.room; producer = refl; consumer = w.fits }) tt in
      let begun : CanLeadTo capacity (h ++ CloseBegin ∷ []) (point (queue t.queue.items false) (Closing false) w.before) =
      happens capacity h s (point (queue t.queue.items false) (Closing false) w.before) CloseBegin r (record { queue = refl; producer = (refl, refl); consumer = refl }) in
      let closed : CanLeadTo capacity (h ++ CloseBegin ∷ []) (point (queue t.queue.items true) (Closing true) w.before) =
      goes capacity (h ++ CloseBegin ∷ []) (point (queue t.queue.items false) (Closing false) w.before) (point (queue t.queue.items true) (Closing true) w.before) Close begun
      (record { queue = refl; producer = (refl, refl); consumer = refl }) in
      let is_queue : queue t.queue.items true ≡ t.queue = sym (as_closed t.queue true ec) in
      let C : Point → Type 0 = λ z. CanLeadTo capacity (h ++ CloseBegin ∷ []) z in
      let there : C (point t.queue t.producer w.before) =
      subst (λ z. C (point t.queue z w.before)) (sym ep) (subst (λ z. C (point z (Closing true) w.before)) is_queue closed) in
      elim w.later [
        | inl e ↦ subst (λ z. C (point t.queue t.producer z)) e there
        | inr f ↦ (
            let (wanted, eb, et, none) = f in
            goes capacity (h ++ CloseBegin ∷ []) (point t.queue t.producer w.before) t FindClosed there
            (record { queue = (none, refl); producer = refl; consumer = (wanted, eb, et) }))
      ]

  begins_open : (t : Point) → Keeps capacity h inside Free take' false → Describes capacity inside (Closes false) take' false t → CanLeadTo capacity (h ++ CloseBegin ∷ []) t
  begins_open t k d =
      let (done, ep, ec, es) = closes_closing capacity false false t.queue.closed t.producer d.producer in
      by_done done ep (ec refl)
    where
      by_done : (done : Bool) → t.producer ≡ Closing done → t.queue.closed ≡ done → CanLeadTo capacity (h ++ CloseBegin ∷ []) t
      by_done true ep ec = took_effect k t ep ec (with_producer capacity inside (Closes false) take' false t d (Closing true) ep)
      by_done false ep ec =
          let d' = with_producer capacity inside (Closes false) take' false t d (Closing false) ep in
          happens capacity h (point t.queue Idle t.consumer) t CloseBegin
          (k.sound (point t.queue Idle t.consumer) (record { items = d'.items; room = d.room; producer = ec; consumer = d.consumer }) tt)
          (record { queue = refl; producer = (refl, ep); consumer = refl })

  begins_shut : (t : Point) → Keeps capacity h inside Free take' true → Describes capacity inside (Closes true) take' true t → CanLeadTo capacity (h ++ CloseBegin ∷ []) t
  begins_shut t k d =
      let (done, ep, ec, es) = closes_closing capacity true true t.queue.closed t.producer d.producer in
      let closed : t.queue.closed ≡ true = es refl in
      let d' = with_producer capacity inside (Closes true) take' true t d (Closing done) ep in
      let r : CanLeadTo capacity (h ++ CloseBegin ∷ []) (point t.queue (Closing false) t.consumer) =
      happens capacity h (point t.queue Idle t.consumer) (point t.queue (Closing false) t.consumer) CloseBegin
      (k.sound (point t.queue Idle t.consumer) (record { items = d'.items; room = d.room; producer = closed; consumer = d.consumer }) tt)
      (record { queue = refl; producer = (refl, refl); consumer = refl }) in
      by_done done ep closed r
    where
      by_done :
          (done : Bool) → t.producer ≡ Closing done → t.queue.closed ≡ true → CanLeadTo capacity (h ++ CloseBegin ∷ []) (point t.queue (Closing false) t.consumer) →
          CanLeadTo capacity (h ++ CloseBegin ∷ []) t
      by_done true ep closed r =
          goes capacity (h ++ CloseBegin ∷ []) (point t.queue (Closing false) t.consumer) t Close r
          (record { queue = as_closed t.queue true closed; producer = (refl, ep); consumer = refl })
      by_done false ep closed r = let C : Point → Type 0 = λ z. CanLeadTo capacity (h ++ CloseBegin ∷ []) z in subst (λ z. C (point t.queue z t.consumer)) (sym ep) r

  pub close_begin : (shut : Bool) → Keeps capacity h inside Free take' shut → Accepts capacity h CloseBegin inside (Closes shut) take' shut
  close_begin shut k =
      accept capacity h CloseBegin inside inside Free (Closes shut) take' take' shut shut [] k (refl, refl) k.few (λ e. e) k.take_ok
      (λ s t d m.
      let (ep, ep') = m.producer in
      let d' = with_producer capacity inside Free take' shut s d Idle ep in
      described_at capacity inside (Closes shut) take' shut t s.queue (Closing false) s.consumer m.queue ep' m.consumer
      (record { items = d'.items; room = d'.room; producer = ((λ e. d'.producer ∙ e), (λ e. d'.producer ∙ e)); consumer = d'.consumer }))
      (λ t d told. by_shut shut k t d)
    where
      by_shut : (shut : Bool) → Keeps capacity h inside Free take' shut → (t : Point) → Describes capacity inside (Closes shut) take' shut t → CanLeadTo capacity (h ++ CloseBegin ∷ []) t
      by_shut true k t d = begins_shut t k d
      by_shut false k t d = begins_open t k d

  end_take_ok : (n : ℕ) (shut : Bool) (t : TakeTurn) → IsSoundTake 0 n t shut → IsSoundTake 0 n t true
  end_take_ok n shut t f = grind arith

  pub close_end : (again shut : Bool) → Keeps capacity h inside (Closes again) take' shut → Accepts capacity h CloseEnd inside Free take' true
  close_end again shut k =
      accept capacity h CloseEnd inside inside (Closes again) Free take' take' shut true [] k (refl, refl) k.few tt (end_take_ok (length inside) shut take' k.take_ok)
      (λ s t d m.
      let (ep, ep') = m.producer in
      let d' = with_producer capacity inside (Closes again) take' shut s d (Closing true) ep in
      described_at capacity inside Free take' true t s.queue Idle s.consumer m.queue ep' m.consumer
      (record { items = d'.items; room = d'.room; producer = by_again again k.put_ok d'.producer.0 d'.producer.1; consumer = d'.consumer }))
      (λ t d told.
      let (ep, ec) = free_idle capacity true t.queue.closed t.producer d.producer in
      let d' = with_producer capacity inside Free take' true t d Idle ep in
      happens capacity h (point t.queue (Closing true) t.consumer) t CloseEnd
      (k.sound (point t.queue (Closing true) t.consumer) (record { items = d'.items; room = d.room; producer = ((λ e. ec), (λ e. ec)); consumer = d.consumer }) tt)
      (record { queue = refl; producer = (refl, ep); consumer = refl }))
    where
      by_again : {closed : Bool} (again : Bool) → (again ≡ true → shut ≡ true) → (again ≡ false → closed ≡ true) → (shut ≡ true → closed ≡ true) → closed ≡ true
      by_again true ok unshut now = now (ok refl)
      by_again false ok unshut now = unshut refl
