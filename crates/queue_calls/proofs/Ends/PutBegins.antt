-- The puts: how they begin.
use Rattle.std.proofs.Common.{◌≡◌, inl, inr, ℕ, zero, suc, ◌+◌, ◌-◌, ◌<◌, ◌≤◌, Bool, true, false, List, [], ◌∷◌, ◌++◌, length, refl, sym, ap, subst, ◌∙◌, arith, length-append, append_assoc}
use Rattle.std.proofs.lemmas.List.{append-nil}
use Rattle.queue_calls.proofs.Common.{Capacity, Queue, queue, FindNoRoom, FindShut, Event, PutBegin, Producer, Idle, Putting, FoundShut, Closing, Consumer, Resting, Taking, Point, point, CanLeadTo}
use Rattle.queue_calls.proofs.Common.{Free, Offers, Late, TakeTurn, MayHold, taken_by, MayLack, FitsTake, Describes, asked_by, IsSoundTake, TellsPoint, Keeps}
use Rattle.queue_calls.proofs.Rooms.{holds_fewer, over, over_holds, over_least, over_few, over_lacks}
use Rattle.queue_calls.proofs.Points.{goes, happens}
use Rattle.queue_calls.proofs.Effects.{described_at, fits_while_open, fits_alike}
use Rattle.queue_calls.proofs.Keeping.{Accepts, accept}
use Rattle.queue_calls.proofs.Sides.{with_producer}
use Rattle.queue_calls.proofs.Ends.Batches.{enqueues, moves, Stored, stored}

-- two lists with equal continuations have the same first items
record Cut (n : ℕ) (a b c d : List ℕ) : Type 0 where
  front : List ℕ
  rest : List ℕ
  more : List ℕ
  first : a ≡ front ++ rest
  second : c ≡ front ++ more
  long : length front ≡ n
  others : rest ++ b ≡ more ++ d

cut : (n : ℕ) (a b c d : List ℕ) → a ++ b ≡ c ++ d → n ≤ length a → n ≤ length c → Cut n a b c d
cut zero a b c d e l m = record { front = []; rest = a; more = c; first = refl; second = refl; long = refl; others = e }
cut (suc n) [] b c d e l m = absurd (omega (arith, l))
cut (suc n) (x ∷ a) b [] d e l m = absurd (omega (arith, m))
cut (suc n) (x ∷ a) b (y ∷ c) d e l m =
    let same : x ≡ y = cc in
    let tail : a ++ b ≡ c ++ d = cc in
    let r : Cut n a b c d = cut n a b c d tail (omega (arith, l)) (omega (arith, m)) in
    record {
      front = x ∷ r.front;
      rest = r.rest;
      more = r.more;
      first = ap (λ z. x ∷ z) r.first;
      second = ap (λ z. z ∷ c) (sym same) ∙ ap (λ z. x ∷ z) r.second;
      long = omega (arith, r.long);
      others = r.others;
    }

module _ (capacity : Capacity) (h : List Event) (inside items : List ℕ) (take' : TakeTurn) (k : Keeps capacity h inside Free take' false) (some : 0 < length items) where
  abbrev After : Point → Type 0
  After t = CanLeadTo capacity (h ++ PutBegin items ∷ []) t

  -- a point before the put, and that after its start
  begun : (xs : List ℕ) (c : Consumer) → inside ≡ taken_by c ++ xs → MayHold capacity (length xs) → FitsTake take' c (queue xs false) → After (point (queue xs false) (Putting 0 0 items) c)
  begun xs c e l f =
      happens capacity h (point (queue xs false) Idle c) (point (queue xs false) (Putting 0 0 items) c) (PutBegin items)
      (k.sound (point (queue xs false) Idle c) (record { items = e ∙ ap (λ z. taken_by c ++ z) (sym (append-nil xs)); room = l; producer = refl; consumer = f }) tt)
      (record { queue = refl; producer = (refl, some, refl); consumer = refl })

  -- it found no room for this many, or did not look
  lacking : (xs : List ℕ) (c : Consumer) (lacked : ℕ) → MayLack capacity (length xs) lacked → After (point (queue xs false) (Putting 0 0 items) c) → After (point (queue xs false) (Putting lacked 0 items) c)
  lacking xs c lacked lacks r = elim lacks [
    | inl e ↦ subst (λ z. After (point (queue xs false) (Putting z 0 items) c)) (sym e) r
    | inr l ↦
        goes capacity (h ++ PutBegin items ∷ []) (point (queue xs false) (Putting 0 0 items) c) (point (queue xs false) (Putting lacked 0 items) c) (FindNoRoom lacked) r
        (record { queue = (l, refl, refl); producer = (items, refl, refl); consumer = refl })
  ]

  -- with no take under way
  rested :
      (xs left : List ℕ) (lacked m : ℕ) → inside ++ items ≡ xs ++ left → m + length left ≡ length items → MayLack capacity (length inside) lacked → MayHold capacity (length xs) →
      FitsTake take' Resting (queue xs false) → After (point (queue xs false) (Putting lacked m left) Resting)
  rested xs left lacked m e sum lacks room fits =
      let s : Stored inside items xs left = stored inside items xs left e (omega (arith, sum)) in
      let long : length xs ≡ length inside + length s.done = omega (arith, ap length s.items_are, length-append inside s.done) in
      let count : 0 + length s.done ≡ m = omega (arith, sum, ap length s.offered_are, length-append s.done left) in
      let r0 : After (point (queue inside false) (Putting 0 0 items) Resting) =
      begun inside Resting refl (holds_fewer capacity (length inside) (length xs) (omega (arith, long)) room) (fits_while_open take' Resting (queue xs false) (queue inside false) refl fits) in
      let r1 : After (point (queue inside false) (Putting lacked 0 (s.done ++ left)) Resting) =
      subst (λ z. After (point (queue inside false) (Putting lacked 0 z) Resting)) s.offered_are (lacking inside Resting lacked lacks r0) in
      let r2 : After (point (queue (inside ++ s.done) false) (Putting lacked (0 + length s.done) left) Resting) =
      enqueues capacity (h ++ PutBegin items ∷ []) Resting lacked s.done left inside 0
      (holds_fewer capacity (length inside + length s.done) (length xs) (omega (arith, long)) room) r1 in
      subst (λ z. After (point (queue xs false) (Putting lacked z left) Resting)) count
      (subst (λ z. After (point (queue z false) (Putting lacked (0 + length s.done) left) Resting)) (sym s.items_are) r2)

  -- the same lack of room with only as many inside as the queue can have
  may_lack_over : (n lacked : ℕ) → MayLack capacity n lacked → MayLack capacity (n - over capacity n) lacked
  may_lack_over n lacked lacks = grind (arith, over_lacks)

  -- with a take under way: it took what the queue cannot have, the put found no room, and then both continued
  took :
      (xs left : List ℕ) (lacked m found : ℕ) (taken : List ℕ) (wanted : ℕ) → inside ++ items ≡ taken ++ (xs ++ left) → m + length left ≡ length items →
      MayLack capacity (length inside) lacked → MayHold capacity (length xs) → FitsTake take' (Taking found taken wanted) (queue xs false) →
      After (point (queue xs false) (Putting lacked m left) (Taking found taken wanted))
  took xs left lacked m found taken wanted e sum lacks room fits =
      let n : ℕ = over capacity (length inside) in
      let whole : length inside + length items ≡ length taken + (length xs + length left) =
      omega (arith, length-append inside items, ap length e, length-append taken (xs ++ left), length-append xs left) in
      let few : n ≤ length taken =
      over_least capacity (length inside) (length taken) (holds_fewer capacity (length inside - length taken) (length xs) (omega (arith, whole, sum)) room) in
      let r : Cut n inside items taken (xs ++ left) = cut n inside items taken (xs ++ left) e (over_few capacity (length inside)) few in
      let long : length r.rest ≡ length inside - n = omega (arith, ap length r.first, length-append r.front r.rest, r.long) in
      let c : Consumer = Taking found r.front (length r.more + wanted) in
      let fit : FitsTake take' c (queue r.rest false) =
      fits_alike take' found taken r.front wanted (length r.more + wanted) (queue xs false) (queue r.rest false)
      (omega (arith, ap length r.second, length-append r.front r.more)) fits in
      let r0 : After (point (queue r.rest false) (Putting 0 0 items) c) =
      begun r.rest c r.first (holds_fewer capacity (length r.rest) (length inside - n) (omega (arith, long)) (over_holds capacity (length inside))) fit in
      let lacks' : MayLack capacity (length r.rest) lacked =
      subst (λ z. MayLack capacity z lacked) (sym long) (may_lack_over (length inside) lacked lacks) in
      let r1 : After (point (queue r.rest false) (Putting lacked 0 items) c) = lacking r.rest c lacked lacks' r0 in
      let r2 : After (point (queue xs false) (Putting lacked m left) (Taking found (r.front ++ r.more) wanted)) =
      moves capacity (h ++ PutBegin items ∷ []) k.proper lacked found r.rest items r.front r.more xs left 0 m wanted r.others (omega (arith, sum)) (omega (arith, sum)) room r1 in
      subst (λ z. After (point (queue xs false) (Putting lacked m left) (Taking found z wanted))) (sym r.second) r2

  points :
      (xs : List ℕ) (closed : Bool) (p : Producer) (c : Consumer) → Describes capacity (inside ++ items) (Offers (length items) (length inside)) take' false (point (queue xs closed) p c) →
      After (point (queue xs closed) p c)
  points xs closed p c d = grind (arith, rested, took)

  more_take : (n m : ℕ) (turn : TakeTurn) → IsSoundTake 0 n turn false → IsSoundTake m (n + m) turn false
  more_take n m turn f = grind arith

  pub put_begin : Accepts capacity h (PutBegin items) (inside ++ items) (Offers (length items) (length inside)) take' false
  put_begin =
      let long : length (inside ++ items) ≡ length inside + length items = length-append inside items in
      let F : ℕ → Type 0 = λ z. IsSoundTake (length items) z take' false in
      accept capacity h (PutBegin items) inside (inside ++ items) Free (Offers (length items) (length inside)) take' take' false false [] k (refl, some, refl)
      (holds_fewer capacity (length (inside ++ items) - (length items + asked_by take')) (length inside - (0 + asked_by take')) (omega (arith, long)) k.few)
      (refl, omega (arith, long))
      (subst F (sym long) (more_take (length inside) (length items) take' k.take_ok))
      (λ s t d m.
      let (ep, some', ep') = m.producer in
      let d' = with_producer capacity inside Free take' false s d Idle ep in
      described_at capacity (inside ++ items) (Offers (length items) (length inside)) take' false t s.queue (Putting 0 0 items) s.consumer m.queue ep' m.consumer
      (record {
        items = joined (taken_by s.consumer) s.queue.items d'.items;
        room = d'.room;
        producer = (omega arith, d'.producer, inl refl);
        consumer = d'.consumer;
      }))
      (λ t d told. points t.queue.items t.queue.closed t.producer t.consumer d)
    where
      joined : (a b : List ℕ) → inside ≡ a ++ (b ++ []) → inside ++ items ≡ a ++ (b ++ items)
      joined a b e =
          let short : inside ≡ a ++ b = e ∙ ap (λ z. a ++ z) (append-nil b) in
          ap (λ z. z ++ items) short ∙ append_assoc a b items

-- a put that begins after a close had ended, or a take has returned Closed
module _ (capacity : Capacity) (h : List Event) (inside items : List ℕ) (take' : TakeTurn) (k : Keeps capacity h inside Free take' true) (some : 0 < length items) where
  abbrev Leading : Point → Type 0
  Leading t = CanLeadTo capacity (h ++ PutBegin items ∷ []) t

  late_begun : (q : Queue) (c : Consumer) → inside ≡ taken_by c ++ (q.items ++ []) → MayHold capacity (length q.items) → q.closed ≡ true → FitsTake take' c q → Leading (point q (Putting 0 0 items) c)
  late_begun q c e l closed f =
      grind (arith, happens capacity h (point q Idle c) (point q (Putting 0 0 items) c) (PutBegin items) (k.sound (point q Idle c) (record { items = e; room = l; producer = closed; consumer = f }) tt) (record { queue = refl; producer = (refl, some, refl); consumer = refl }))

  late_points :
      (q : Queue) (p : Producer) (c : Consumer) → Describes capacity inside (Late (length items)) take' true (point q p c) → TellsPoint items (Late (length items)) p → Leading (point q p c)
  late_points q Idle c d told = absurd d.producer
  late_points q (Putting lacked m left) c d told = grind (arith, late_begun)
  late_points q FoundShut c d told =
      grind (arith, goes capacity (h ++ PutBegin items ∷ []) (point q (Putting 0 0 items) c) (point q FoundShut c) FindShut (late_begun q c d.items d.room d.producer d.consumer) (record { queue = (d.producer, refl); producer = (items, refl, refl); consumer = refl }), late_begun q c d.items d.room d.producer d.consumer)
  late_points q (Closing done) c d told = absurd d.producer

  pub late_begin : Accepts capacity h (PutBegin items) inside (Late (length items)) take' true
  late_begin =
      accept capacity h (PutBegin items) inside inside Free (Late (length items)) take' take' true true items k (refl, some, refl) k.few refl k.take_ok
      (λ s t d m.
      let (ep, some', ep') = m.producer in
      let d' = with_producer capacity inside Free take' true s d Idle ep in
      described_at capacity inside (Late (length items)) take' true t s.queue (Putting 0 0 items) s.consumer m.queue ep' m.consumer
      (record { items = d'.items; room = d'.room; producer = (refl, refl, d'.producer); consumer = d'.consumer }))
      (λ t d told. late_points t.queue t.producer t.consumer d told)
