-- The operations of two sides have an order that is that of a queue and respects the time of the calls: each operation of the
-- consumer comes after those of the producer that must precede it, or precede an earlier one of the consumer, and after no others.
use Rattle.std.proofs.Common.{◌≡◌, ◌⊎◌, inl, inr, ℕ, suc, ◌+◌, ◌<◌, ◌≤◌, Bool, true, false, List, [], ◌∷◌, ◌++◌, length, refl, sym, ap, subst, ◌∙◌, arith, length-append, append_assoc}
use Rattle.ring_core.proofs.Common.{map, P, C, clock}
use Rattle.bits_core.specs.declared.events.Event.{Event}
use Rattle.std.proofs.lemmas.Bool.{false≢true}
use Rattle.queue_calls.specs.Queue.{Queue, queue, exactly, Step, IsLegal}
use Rattle.ring_core.specs.Linear.{TimedOperation, done_by, of_side, EndsBefore}
use Rattle.ring_core.proofs.Readings.Cuts.{at_most_or_above}
use Rattle.ring_core.proofs.Linear.Turns.{In, Kind, Moves, Misses, Ends, IsMove, IsMiss, IsEnd, Op, put_op, take_op, put_does, take_does, Tallies, PutFact, TakeFact, GoesTo, Must, May, NoMust, find_must, may, move_not_miss}

-- the operations of each side
abbrev pub put_ops : List Op → List TimedOperation
put_ops = map put_op

abbrev pub take_ops : List Op → List TimedOperation
take_ops = map take_op

-- each comes before those after it, and one that ends is the last
abbrev pub Sorted : List Op → Type 0
Sorted [] = Unit {0}
Sorted (x ∷ xs) = ((x' : Op) → In x' xs → GoesTo x x' × ¬ IsEnd x.kind) × Sorted xs

-- the numbers grow by one with each item, from the second number to the first
abbrev pub next_number : ℕ → Kind → ℕ
next_number n (Moves item) = suc n
next_number n Misses = n
next_number n Ends = n

abbrev pub Numbered : ℕ → ℕ → List Op → Type 0
Numbered last n [] = n ≡ last
Numbered last n (x ∷ xs) = (x.number ≡ n) × Numbered last (next_number n x.kind) xs

-- the items that are put, and taken
abbrev pub with_item : Kind → List ℕ → List ℕ
with_item (Moves item) items = item ∷ items
with_item Misses items = items
with_item Ends items = items

abbrev pub items_by : List Op → List ℕ
items_by [] = []
items_by (x ∷ xs) = with_item x.kind (items_by xs)

-- whether the queue is closed after these
abbrev pub closed_by : Bool → Kind → Bool
closed_by closed (Moves item) = closed
closed_by closed Misses = closed
closed_by closed Ends = true

abbrev pub IsClosedBy : Bool → List Op → Type 0
IsClosedBy closed [] = closed ≡ true
IsClosedBy closed (x ∷ xs) = IsClosedBy (closed_by closed x.kind) xs

-- no operation comes after one before which it had ended, defined from the front
abbrev pub IsTimely : List Event → List TimedOperation → Type 0
IsTimely h [] = Unit {0}
IsTimely h (o ∷ order) = ((o' : TimedOperation) → In o' order → ¬ EndsBefore h o' o) × IsTimely h order

-- an operation of one of the two lists
abbrev pub IsOf : List Op → List Op → TimedOperation → Type 0
IsOf xs ys o = ((x : Op) × In x xs × (o ≡ put_op x)) ⊎ ((y : Op) × In y ys × (o ≡ take_op y))

-- an order of the operations to come, starting with this queue
pub record Ordered (h : List Event) (capacity : ℕ) (q : Queue) (xs : List Op) (ys : List Op) : Type 0 where
  pub order : List TimedOperation
  pub producer : of_side P order ≡ put_ops xs
  pub consumer : of_side C order ≡ take_ops ys
  pub legal : IsLegal (exactly capacity) q (done_by order)
  pub timely : IsTimely h order
  pub members : (o : TimedOperation) → In o order → IsOf xs ys o

-- What holds when these operations are to come, this many items were taken, and these are in the queue.
pub record Standing (capacity stored taken : ℕ) (IsPut : Op → Type 0) (IsTake : Op → Type 0) (k : ℕ) (items : List ℕ) (closed : Bool) (xs : List Op) (ys : List Op) : Type 0 where
  pub fits : length items ≤ capacity
  pub puts_numbered : Numbered stored (k + length items) xs
  pub takes_numbered : Numbered taken k ys
  pub puts_sorted : Sorted xs
  pub takes_sorted : Sorted ys
  pub puts : (x : Op) → In x xs → IsPut x
  pub takes : (y : Op) → In y ys → IsTake y
  pub fulls : (x : Op) → In x xs → IsMiss x.kind → k + capacity ≤ x.number
  pub empties : (y : Op) → In y ys → IsMiss y.kind → (k + length items ≤ y.number) × (closed ≡ false)
  pub opened : (x : Op) → In x xs → closed ≡ false
  pub ends : (y : Op) → In y ys → IsEnd y.kind → IsClosedBy closed xs
  pub same : (rest : List ℕ) × (items ++ items_by xs ≡ items_by ys ++ rest)

next_up : (n : ℕ) (kind : Kind) → n ≤ next_number n kind
next_up n kind = grind arith

takes_up : (last k : ℕ) (ys : List Op) → Numbered last k ys → k ≤ last
takes_up last k [] e = omega (arith, e)
takes_up last k (y ∷ ys) (e, r) = omega (arith, next_up k y.kind, takes_up last (next_number k y.kind) ys r)

-- the next item is put by one of the operations, if there is one
abbrev NextPut : ℕ → List Op → Type 0
NextPut n xs = (x : Op) × In x xs × IsMove x.kind × (x.number ≡ n)

next_of : (last n : ℕ) (xs : List Op) → Numbered last n xs → n < last → NextPut n xs
next_of last n [] e l = absurd (omega (arith, e, l))
next_of last n (x ∷ xs) (e, r) l = by_kind x.kind refl r (λ m. next_of last m xs)
  where
    by_kind :
        (kind : Kind) → x.kind ≡ kind → Numbered last (next_number n kind) xs →
        ((m : ℕ) → Numbered last m xs → m < last → NextPut m xs) → NextPut n (x ∷ xs)
    by_kind (Moves item) f r next = (x, inl refl, subst IsMove (sym f) tt, e)
    by_kind Misses f r next = let (x', i, s, g) = next n r l in (x', inr i, s, g)
    by_kind Ends f r next = let (x', i, s, g) = next n r l in (x', inr i, s, g)

module _ (h : List Event) (capacity events stored taken : ℕ) (puts_begun puts_ended takes_begun takes_ended : ℕ → ℕ)
    (tallies : Tallies h capacity puts_begun puts_ended takes_begun takes_ended)
    (more_stored : taken ≤ stored) (within : stored ≤ taken + capacity) where
  abbrev IsPut : Op → Type 0
  IsPut x = PutFact h capacity events puts_begun puts_ended takes_ended x × (IsMove x.kind → x.number < stored)

  abbrev IsTake : Op → Type 0
  IsTake y = TakeFact h events stored puts_ended takes_begun takes_ended y

  abbrev Stands : ℕ → List ℕ → Bool → List Op → List Op → Type 0
  Stands k items closed xs ys = Standing capacity stored taken IsPut IsTake k items closed xs ys

  abbrev Order : List ℕ → Bool → List Op → List Op → Type 0
  Order items closed xs ys = Ordered h capacity (queue items closed) xs ys

  -- an operation of the producer first
  put_first :
      (q after : Queue) (x : Op) (xs : List Op) (ys : List Op) → Step (exactly capacity) q (put_does x.kind) after → IsPut x →
      ((x' : Op) → In x' xs → IsPut x' × GoesTo x x') → ((y : Op) → In y ys → May h capacity x y) →
      Ordered h capacity after xs ys → Ordered h capacity q (x ∷ xs) ys
  put_first q after x xs ys step px behind mays r = record {
    order = put_op x ∷ r.order;
    producer = ap (λ l. put_op x ∷ l) r.producer;
    consumer = r.consumer;
    legal = (after, step, r.legal);
    timely = (
      (λ o i z. elim (r.members o i) [
        | inl (x', j, e) ↦ by_put o z.0 x' e (behind x' j) z.1 z.2
        | inr (y, j, e) ↦ by_take o z.0 y e (mays y j) z.1 z.2
      ]),
      r.timely,
    );
    members = λ o i. elim i [
      | inl e ↦ inl (x, inl refl, e)
      | inr j ↦ elim (r.members o j) [ inl (x', m, e) ↦ inl (x', inr m, e) | inr (y, m, e) ↦ inr (y, m, e) ]
    ];
  }
    where
      by_put : (o : TimedOperation) (t : ℕ) (x' : Op) → o ≡ put_op x' → IsPut x' × GoesTo x x' → o.stop ≤ clock o.side h t → clock P h t ≤ x.start → ⊥
      by_put o t x' e (px', to) a b = grind arith

      by_take : (o : TimedOperation) (t : ℕ) (y : Op) → o ≡ take_op y → May h capacity x y → o.stop ≤ clock o.side h t → clock P h t ≤ x.start → ⊥
      by_take o t y e m a b = m.time t (subst (λ (z : TimedOperation). z.stop ≤ clock z.side h t) e a) b

  -- an operation of the consumer first
  take_first :
      (q after : Queue) (y : Op) (xs : List Op) (ys : List Op) → Step (exactly capacity) q (take_does y.kind) after → IsTake y →
      ((y' : Op) → In y' ys → IsTake y' × GoesTo y y') → NoMust h capacity xs y →
      Ordered h capacity after xs ys → Ordered h capacity q xs (y ∷ ys)
  take_first q after y xs ys step qy behind none r = record {
    order = take_op y ∷ r.order;
    producer = r.producer;
    consumer = ap (λ l. take_op y ∷ l) r.consumer;
    legal = (after, step, r.legal);
    timely = (
      (λ o i z. elim (r.members o i) [
        | inl (x, j, e) ↦ by_put o z.0 x e (none x j) z.1 z.2
        | inr (y', j, e) ↦ by_take o z.0 y' e (behind y' j) z.1 z.2
      ]),
      r.timely,
    );
    members = λ o i. elim i [
      | inl e ↦ inr (y, inl refl, e)
      | inr j ↦ elim (r.members o j) [ inl (x, m, e) ↦ inl (x, m, e) | inr (y', m, e) ↦ inr (y', inr m, e) ]
    ];
  }
    where
      by_put : (o : TimedOperation) (t : ℕ) (x : Op) → o ≡ put_op x → ¬ Must h capacity x y → o.stop ≤ clock o.side h t → clock C h t ≤ y.start → ⊥
      by_put o t x e not a b = grind arith

      by_take : (o : TimedOperation) (t : ℕ) (y' : Op) → o ≡ take_op y' → IsTake y' × GoesTo y y' → o.stop ≤ clock o.side h t → clock C h t ≤ y.start → ⊥
      by_take o t y' e (qy', to) a b = grind arith

  -- an operation of the producer that may precede all remaining ones of the consumer, if these items are in the queue after it
  put_on :
      (x : Op) (xs : List Op) (ys : List Op) (k : ℕ) (items items' : List ℕ) (closed closed' : Bool) → Stands k items closed (x ∷ xs) ys →
      ((y : Op) → In y ys → May h capacity x y) → Step (exactly capacity) (queue items closed) (put_does x.kind) (queue items' closed') →
      length items' ≤ capacity → next_number (k + length items) x.kind ≡ k + length items' →
      ((y : Op) → In y ys → IsMiss y.kind → (k + length items' ≤ y.number) × (closed' ≡ false)) → ((x' : Op) → In x' xs → closed' ≡ false) →
      ((y : Op) → In y ys → IsEnd y.kind → IsClosedBy closed' xs) → (rest : List ℕ) × (items' ++ items_by xs ≡ items_by ys ++ rest) →
      (Stands k items' closed' xs ys → Order items' closed' xs ys) → Order items closed (x ∷ xs) ys
  put_on x xs ys k items items' closed closed' r mays step fits number empties opened ends same next =
      put_first (queue items closed) (queue items' closed') x xs ys step (r.puts x (inl refl)) (λ x' i. (r.puts x' (inr i), (r.puts_sorted.0 x' i).0)) mays
      (grind arith)

  put_step :
      (n start stop place : ℕ) (kind : Kind) (xs : List Op) (ys : List Op) (k : ℕ) (items : List ℕ) (closed : Bool) →
      Stands k items closed (record { number = n; kind = kind; start = start; stop = stop; place = place } ∷ xs) ys →
      ((y : Op) → In y ys → May h capacity (record { number = n; kind = kind; start = start; stop = stop; place = place }) y) →
      (IsMove kind → length items < capacity) →
      ((items' : List ℕ) (closed' : Bool) → Stands k items' closed' xs ys → Order items' closed' xs ys) →
      Order items closed (record { number = n; kind = kind; start = start; stop = stop; place = place } ∷ xs) ys
  put_step n start stop place (Moves item) xs ys k items closed r mays room next =
      let x : Op = record { number = n; kind = Moves item; start = start; stop = stop; place = place } in
      let open_now : closed ≡ false = r.opened x (inl refl) in
      let long : length (items ++ item ∷ []) ≡ suc (length items) = omega (arith, length-append items (item ∷ [])) in
      let (rest, same) = r.same in
      put_on x xs ys k items (items ++ item ∷ []) closed false r mays (room tt, open_now, refl) (omega (arith, long, room tt)) (omega (arith, long))
      (λ y i e. (omega (arith, long, (mays y i).empty tt e, r.puts_numbered.0), refl)) (λ x' i. refl)
      (λ y i e. subst (λ b. IsClosedBy b xs) open_now (r.ends y i e)) (rest, append_assoc items (item ∷ []) (items_by xs) ∙ same)
      (next (items ++ item ∷ []) false)
  put_step n start stop place Misses xs ys k items closed r mays room next =
      let x : Op = record { number = n; kind = Misses; start = start; stop = stop; place = place } in
      put_on x xs ys k items items closed closed r mays (omega (arith, r.fits, r.fulls x (inl refl) tt, r.puts_numbered.0), r.opened x (inl refl), refl) r.fits refl
      r.empties (λ x' i. r.opened x' (inr i)) r.ends r.same (next items closed)
  put_step n start stop place Ends xs ys k items closed r mays room next =
      let x : Op = record { number = n; kind = Ends; start = start; stop = stop; place = place } in
      put_on x xs ys k items items closed true r mays refl r.fits refl (λ y i e. absurd ((mays y i).opened tt e)) (λ x' i. absurd ((r.puts_sorted.0 x' i).1 tt))
      r.ends r.same (next items true)

  -- an operation of the consumer that none of the producer's remaining ones must precede, if these items are in the queue after it
  take_on :
      (y : Op) (xs : List Op) (ys : List Op) (k : ℕ) (items items' : List ℕ) (closed : Bool) → Stands k items closed xs (y ∷ ys) → NoMust h capacity xs y →
      Step (exactly capacity) (queue items closed) (take_does y.kind) (queue items' closed) →
      length items' ≤ capacity → k + length items ≡ next_number k y.kind + length items' →
      ((x : Op) → In x xs → IsMiss x.kind → next_number k y.kind + capacity ≤ x.number) → (rest : List ℕ) × (items' ++ items_by xs ≡ items_by ys ++ rest) →
      (Stands (next_number k y.kind) items' closed xs ys → Order items' closed xs ys) → Order items closed xs (y ∷ ys)
  take_on y xs ys k items items' closed r none step fits number fulls same next = grind (arith, take_first)

  take_step :
      (n start stop place : ℕ) (kind : Kind) (xs : List Op) (ys : List Op) (k : ℕ) (items : List ℕ) (closed : Bool) →
      Stands k items closed xs (record { number = n; kind = kind; start = start; stop = stop; place = place } ∷ ys) →
      NoMust h capacity xs (record { number = n; kind = kind; start = start; stop = stop; place = place }) →
      ((k' : ℕ) (items' : List ℕ) (closed' : Bool) → Stands k' items' closed' xs ys → Order items' closed' xs ys) →
      Order items closed xs (record { number = n; kind = kind; start = start; stop = stop; place = place } ∷ ys)
  take_step n start stop place (Moves item) xs ys k [] closed r none next = grind (arith, takes_up, next_of)
  take_step n start stop place (Moves item) xs ys k (e ∷ items) closed r none next =
      let y : Op = record { number = n; kind = Moves item; start = start; stop = stop; place = place } in
      let (rest, same) = r.same in
      let first : e ≡ item = cc in
      let others : items ++ items_by xs ≡ items_by ys ++ rest = cc in
      take_on y xs ys k (e ∷ items) items closed r none (ap (λ v. v ∷ items) first, refl) (omega (arith, r.fits)) (omega arith)
      (λ x i s. elim (at_most_or_above x.number (n + capacity)) [
        | inl l ↦ absurd (none x i (inr (grind arith)))
        | inr l ↦ omega (arith, l, r.takes_numbered.0)
      ])
      (rest, others) (next (suc k) items closed)
  take_step n start stop place Misses xs ys k (e ∷ items) closed r none next =
      let y : Op = record { number = n; kind = Misses; start = start; stop = stop; place = place } in
      absurd (omega (arith, (r.empties y (inl refl) tt).0, r.takes_numbered.0))
  take_step n start stop place Misses xs ys k [] closed r none next =
      let y : Op = record { number = n; kind = Misses; start = start; stop = stop; place = place } in
      take_on y xs ys k [] [] closed r none (omega arith, (λ drained. false≢true (sym (r.empties y (inl refl) tt).1 ∙ drained.1)), refl) r.fits refl r.fulls r.same
      (next k [] closed)
  take_step n start stop place Ends (x ∷ xs) ys k items closed r none next = absurd (none x (inl refl) (inr tt))
  take_step n start stop place Ends [] ys k (e ∷ items) closed r none next =
      let y : Op = record { number = n; kind = Ends; start = start; stop = stop; place = place } in
      absurd (omega (arith, r.puts_numbered, r.takes_numbered.0, (r.takes y (inl refl)).all tt))
  take_step n start stop place Ends [] ys k [] closed r none next =
      let y : Op = record { number = n; kind = Ends; start = start; stop = stop; place = place } in
      take_on y [] ys k [] [] closed r none ((refl, r.ends y (inl refl) tt), refl) r.fits refl r.fulls r.same (next k [] closed)

  -- what must precede the next operation of the consumer comes first
  abbrev Goes : List Op → List Op → Type 0
  Goes xs ys = (k : ℕ) (items : List ℕ) (closed : Bool) → Stands k items closed xs ys → Order items closed xs ys

  walk : (y : Op) (ys : List Op) → ((xs : List Op) → Goes xs ys) → (xs : List Op) → Goes xs (y ∷ ys)
  walk y ys next [] k items closed r = take_step y.number y.start y.stop y.place y.kind [] ys k items closed r (λ x i m. absurd i) (next [])
  walk y ys next (x ∷ xs) k items closed r = elim (find_must h capacity (x ∷ xs) y) [
    | inr none ↦ take_step y.number y.start y.stop y.place y.kind (x ∷ xs) ys k items closed r none (next (x ∷ xs))
    | inl (x', i, m) ↦ put_now x' i m (walk y ys next xs)
  ]
    where
      put_to : (x' : Op) → In x' (x ∷ xs) → GoesTo x x'
      put_to x' (inl e) = subst (λ z. GoesTo x z) (sym e) (grind (arith, move_not_miss))
      put_to x' (inr i) = (r.puts_sorted.0 x' i).0

      take_to : (y' : Op) → In y' (y ∷ ys) → GoesTo y y'
      take_to y' (inl e) = subst (λ z. GoesTo y z) (sym e) (grind (arith, move_not_miss))
      take_to y' (inr i) = (r.takes_sorted.0 y' i).0

      put_now : (x' : Op) → In x' (x ∷ xs) → Must h capacity x' y → Goes xs (y ∷ ys) → Order items closed (x ∷ xs) (y ∷ ys)
      put_now x' i m go =
          let px = r.puts x (inl refl) in
          let mays : (y' : Op) → In y' (y ∷ ys) → May h capacity x y' =
          λ y' j. may h capacity events stored puts_begun puts_ended takes_begun takes_ended tallies x x' y y' px.0 (r.puts x' i).0 (r.takes y (inl refl)) (r.takes y' j)
          (put_to x' i) (take_to y' j) px.1 m in
          put_step x.number x.start x.stop x.place x.kind xs (y ∷ ys) k items closed r mays
          (λ s. omega (arith, (mays y (inl refl)).room s, r.puts_numbered.0, r.takes_numbered.0)) (go k)

  -- after all operations of the consumer come the producer's
  puts_alone : (xs : List Op) → Goes xs []
  puts_alone [] k items closed r = record { order = []; producer = refl; consumer = refl; legal = tt; timely = tt; members = λ o i. absurd i }
  puts_alone (x ∷ xs) k items closed r = step (puts_alone xs)
    where
      step : Goes xs [] → Order items closed (x ∷ xs) []
      step go =
          put_step x.number x.start x.stop x.place x.kind xs [] k items closed r (λ y i. absurd i)
          (λ s. omega (arith, (r.puts x (inl refl)).1 s, r.puts_numbered.0, r.takes_numbered, within)) (go k)

  pub goes : (ys : List Op) (xs : List Op) → Goes xs ys
  goes [] xs = puts_alone xs
  goes (y ∷ ys) xs = walk y ys (goes ys) xs
