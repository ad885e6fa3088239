-- How many items a queue has, at the points described by what an auditor keeps; and what is reported of them at each moment.
use Rattle.std.proofs.Common.{◌≡◌, ◌⊎◌, inl, inr, ℕ, ◌+◌, ◌-◌, ◌≤◌, Bool, true, false, List, [], ◌∷◌, ◌++◌, length, take, drop, refl, sym, ap, subst, ◌∙◌, arith, length-append, length-drop, append_assoc}
use Rattle.queue_calls.proofs.Common.{max, Capacity, Unbounded, Between, Queue, queue, Event, PutBegin, Producer, Idle, Putting, FoundShut, Closing, Consumer, Resting, Taking, Point, point, Kept}
use Rattle.queue_calls.proofs.Common.{kept, Counts, IsProper, MayHold, taken_by, left_by, FitsPut, FitsTake, Describes, offered_by, asked_by, TellsPoint, least_kept, most_kept, most_behind, PutTurn}
use Rattle.queue_calls.proofs.Common.{Free, Offers, Late, Closes, TakeTurn, Rests, Waits}
use Rattle.std.proofs.lemmas.List.{append-nil, take-append-drop, length-take, length-take-le}
use Rattle.queue_calls.specs.Reporting.{AtSome, AtEach, Surely, Perhaps, IsSurelyInside, IsPerhapsInside}
use Rattle.queue_calls.proofs.CountedHistories.{Stands}
use Rattle.queue_calls.proofs.Ends.PutEnds.{few_taken}
use Rattle.queue_calls.proofs.Ends.TakeBegins.{keeps_nothing}

-- ---- the points that are described

-- a take under way that took these, and a put under way that has these left
consumer_at : (turn : TakeTurn) (front : List ℕ) → length front ≤ asked_by turn → (c : Consumer) × (taken_by c ≡ front) × ((q : Queue) → FitsTake turn c q)
consumer_at Rests [] few = (Resting, refl, (λ q. tt))
consumer_at Rests (x ∷ front) few = absurd (omega (arith, few))
consumer_at (Waits wanted before ended) front few = (Taking 0 front (wanted - length front), refl, (λ q. (omega (arith, few), inl refl)))

abbrev HasLeft : Capacity → PutTurn → Bool → List ℕ → Type 0
HasLeft capacity put shut back = (p : Producer) × (closed : Bool) × (left_by put p ≡ back) × FitsPut capacity put shut p closed × ((late : List ℕ) → TellsPoint late put p)

producer_at : (capacity : Capacity) (put : PutTurn) (shut : Bool) (back : List ℕ) → length back ≤ offered_by put → HasLeft capacity put shut back
producer_at capacity Free shut [] few = (Idle, shut, refl, refl, (λ late. tt))
producer_at capacity Free shut (x ∷ back) few = absurd (omega (arith, few))
producer_at capacity (Offers offered before) shut back few = (Putting 0 (offered - length back) back, false, refl, (omega (arith, few), refl, inl refl), (λ late. tt))
producer_at capacity (Late offered) shut [] few = (FoundShut, true, refl, refl, (λ late. tt))
producer_at capacity (Late offered) shut (x ∷ back) few = absurd (omega (arith, few))
producer_at capacity (Closes again) shut [] few = (Closing true, true, refl, ((λ _. refl), (λ _. refl)), (λ late. tt))
producer_at capacity (Closes again) shut (x ∷ back) few = absurd (omega (arith, few))

-- a list in three parts
three :
    (xs : List ℕ) (t q : ℕ) → t + q ≤ length xs →
    (front mid back : List ℕ) × (xs ≡ front ++ (mid ++ back)) × (length front ≡ t) × (length mid ≡ q) × (length back ≡ (length xs - t) - q)
three xs t q few =
    let rest : List ℕ = drop t xs in
    let long : length rest ≡ length xs - t = length-drop t xs in (
      take t xs,
      take q rest,
      drop q rest,
      sym (take-append-drop t xs) ∙ ap (λ z. take t xs ++ z) (sym (take-append-drop q rest)),
      length-take-le t xs (omega (arith, few)),
      length-take-le q rest (omega (arith, few, long)),
      length-drop q rest ∙ ap (λ z. z - q) long,
    )

module _ (capacity : Capacity) (h : List Event) (k : Kept) (j : Stands capacity h k) where
  -- each number of items that is possible, given how many the calls under way may have taken and not have stored
  reach : (q : ℕ) → q ≤ length k.inside → length k.inside ≤ q + (offered_by k.put + asked_by k.take) → MayHold capacity q → Perhaps capacity (λ inside. inside ≡ q) h
  reach q less few holds =
      let t : ℕ = (length k.inside - q) - offered_by k.put in
      let (front, mid, back, parts, is_front, is_mid, is_back) = three k.inside t q (omega (arith, less)) in
      let (c, took, takes) = consumer_at k.take front (omega (arith, is_front, few)) in
      let (p, closed, left, puts, told) = producer_at capacity k.put k.shut back (omega (arith, is_back, few)) in
      let s : Point = point (queue mid closed) p c in
      let d : Describes capacity k.inside k.put k.take k.shut s = record {
        items = parts ∙ (ap (λ z. front ++ (mid ++ z)) (sym left) ∙ ap (λ z. z ++ (mid ++ left_by k.put p)) (sym took));
        room = subst (λ z. MayHold capacity z) (sym is_mid) holds;
        producer = puts;
        consumer = takes (queue mid closed);
      } in
      (s, j.sound s d (told j.late), is_mid)

  long_is : (s : Point) → Describes capacity k.inside k.put k.take k.shut s → length k.inside ≡ length (taken_by s.consumer) + (length s.queue.items + length (left_by k.put s.producer))
  long_is s d = grind (arith, length, length-append)

  -- at least the least, which is possible
  pub least_surely : Surely capacity (λ inside. least_kept k ≤ inside) h
  least_surely s r = grind (arith, long_is, few_taken, take)

  few_holds : MayHold capacity (least_kept k)
  few_holds = subst (λ z. MayHold capacity z) (omega arith) j.few

  pub least_perhaps : Perhaps capacity (λ inside. inside ≡ least_kept k) h
  least_perhaps = reach (least_kept k) (omega arith) (omega arith) few_holds

  most_few : (c : Capacity) (s : Point) → length s.queue.items ≤ length k.inside → MayHold c (length s.queue.items) → length s.queue.items ≤ most_kept c k
  most_few c s less holds = grind arith

  -- at most the most, which is possible
  pub most_surely : Surely capacity (λ inside. inside ≤ most_kept capacity k) h
  most_surely s r =
      let d = j.complete s r in
      most_few capacity s (omega (arith, long_is s d)) d.room

  most_less : (c : Capacity) → most_kept c k ≤ length k.inside
  most_less c = grind arith

  most_holds : (c : Capacity) → MayHold c (most_kept c k)
  most_holds c = grind arith

  most_far : (c : Capacity) → MayHold c (length k.inside - (offered_by k.put + asked_by k.take)) → length k.inside ≤ most_kept c k + (offered_by k.put + asked_by k.take)
  most_far c few = grind arith

  pub most_perhaps : Perhaps capacity (λ inside. inside ≡ most_kept capacity k) h
  most_perhaps = reach (most_kept capacity k) (most_less capacity) (most_far capacity j.few) (most_holds capacity)

-- ---- the prefixes of a history

-- a prefix of a history with one more event is the whole or a prefix of the history
one_or_before :
    (events before rest : List Event) (event : Event) → events ++ event ∷ [] ≡ before ++ rest → (before ≡ events ++ event ∷ []) ⊎ ((more : List Event) × (events ≡ before ++ more))
one_or_before events [] rest event e = inr (events, refl)
one_or_before [] (b ∷ []) rest event e = inl cc
one_or_before [] (b ∷ c ∷ before) rest event e = absurd (omega (arith, ap length e))
one_or_before (x ∷ events) (b ∷ before) rest event e = grind (arith, one_or_before events before rest event)

each_more : (Holds : List Event → Type 0) (events : List Event) (event : Event) → AtEach Holds events → Holds (events ++ event ∷ []) → AtEach Holds (events ++ event ∷ [])
each_more Holds events event each here before rest e = grind (arith, one_or_before)

some_more : (Holds : List Event → Type 0) (events : List Event) (event : Event) → AtSome Holds events → AtSome Holds (events ++ event ∷ [])
some_more Holds events event (before, rest, parts, holds) = (before, rest ++ event ∷ [], ap (λ z. z ++ event ∷ []) parts ∙ append_assoc before rest (event ∷ []), holds)

some_here : (Holds : List Event → Type 0) (events : List Event) → Holds events → AtSome Holds events
some_here Holds events holds = (events, [], sym (append-nil events), holds)

-- the same for a number that is no less
perhaps_more : (capacity : Capacity) (h : List Event) (n m : ℕ) → n ≤ m → Perhaps capacity (λ inside. inside ≤ n) h → Perhaps capacity (λ inside. inside ≤ m) h
perhaps_more capacity h n m less (s, r, few) = (s, r, omega (arith, less, few))

surely_more : (capacity : Capacity) (h : List Event) (n m : ℕ) → n ≤ m → Surely capacity (λ inside. inside ≤ n) h → Surely capacity (λ inside. inside ≤ m) h
surely_more capacity h n m less few s r = omega (arith, less, few s r)

at_most_or_more : (a b : ℕ) → (a ≤ b) ⊎ (b ≤ a)
at_most_or_more a b = grind arith

-- ---- with one more event

module _ (capacity : Capacity) (events : List Event) (event : Event) (before after : Kept) (j : Stands capacity events before) (j' : Stands capacity (events ++ event ∷ []) after) where
  pub surely_follows : (n : ℕ) → IsSurelyInside capacity events n → IsSurelyInside capacity (events ++ event ∷ []) (max n (least_kept after))
  surely_follows n (some, each) =
      let l : ℕ = least_kept after in
      let h : List Event = events ++ event ∷ [] in
      let S : ℕ → Type 0 = λ z. AtSome (Surely capacity (λ inside. z ≤ inside)) h in
      let is_some : S (max n l) = elim (at_most_or_more l n) [
        | inl less ↦ subst S (omega (arith, less)) (some_more (Surely capacity (λ inside. n ≤ inside)) events event some)
        | inr less ↦ subst S (omega (arith, less)) (some_here (Surely capacity (λ inside. l ≤ inside)) h (least_surely capacity h after j'))
      ] in
      let (s, r, is) = least_perhaps capacity h after j' in (
        is_some,
        each_more (Perhaps capacity (λ inside. inside ≤ max n l)) events event
            (λ b rest e. perhaps_more capacity b n (max n l) (omega arith) (each b rest e)) (s, r, omega (arith, is)),
      )

  -- if no more came in
  perhaps_stays : (n : ℕ) → length after.inside ≤ length before.inside → IsPerhapsInside capacity events n → IsPerhapsInside capacity (events ++ event ∷ []) n
  perhaps_stays n less (each, some) =
      let h : List Event = events ++ event ∷ [] in
      let (s, r, is) = most_perhaps capacity events before j in
      let few : most_kept capacity before ≤ n = subst (λ z. z ≤ n) is (each events [] (sym (append-nil events)) s r) in
      let fewer : most_kept capacity after ≤ n = most_fewer capacity less few in (
        each_more (Surely capacity (λ inside. inside ≤ n)) events event each (surely_more capacity h (most_kept capacity after) n fewer (most_surely capacity h after j')),
        some_more (Perhaps capacity (λ inside. inside ≡ n)) events event some,
      )
    where
      most_fewer : (c : Capacity) → length after.inside ≤ length before.inside → most_kept c before ≤ n → most_kept c after ≤ n
      most_fewer Unbounded less few = omega (arith, less, few)
      most_fewer (Between full most) less few = omega (arith, less, few)

  perhaps_grows : (n : ℕ) → IsPerhapsInside capacity events n → IsPerhapsInside capacity (events ++ event ∷ []) (max n (most_kept capacity after))
  perhaps_grows n (each, some) =
      let m : ℕ = most_kept capacity after in
      let h : List Event = events ++ event ∷ [] in
      let S : ℕ → Type 0 = λ z. AtSome (Perhaps capacity (λ inside. inside ≡ z)) h in
      let is_some : S (max n m) = elim (at_most_or_more m n) [
        | inl less ↦ subst S (omega (arith, less)) (some_more (Perhaps capacity (λ inside. inside ≡ n)) events event some)
        | inr less ↦ subst S (omega (arith, less)) (some_here (Perhaps capacity (λ inside. inside ≡ m)) h (most_perhaps capacity h after j'))
      ] in (
        each_more (Surely capacity (λ inside. inside ≤ max n m)) events event
            (λ b rest e. surely_more capacity b n (max n m) (omega arith) (each b rest e))
            (surely_more capacity h m (max n m) (omega arith) (most_surely capacity h after j')),
        is_some,
      )

-- more come in only when a put begins
no_longer : (k after it : Kept) → after ≡ it → length it.inside ≤ length k.inside → length after.inside ≤ length k.inside
no_longer k after it e less = omega (arith, ap (λ (z : Kept). length z.inside) e, less)

abbrev IsNoLonger : Event → (after before : ℕ) → Type 0
IsNoLonger (PutBegin items) after before = Unit {0}
IsNoLonger _ after before = after ≤ before

comes_in : (capacity : Capacity) (k : Kept) (event : Event) (after : Kept) → Counts capacity k event after → IsNoLonger event (length after.inside) (length k.inside)
comes_in capacity k event after c = grind (arith, no_longer, length-take, length, length-drop)

abbrev Follows : Capacity → List Event → Event → Kept → Kept → Type 0
Follows capacity events event before after =
    Stands capacity events before → Stands capacity (events ++ event ∷ []) after → Counts capacity before event after → (n : ℕ) → IsPerhapsInside capacity events n →
    IsPerhapsInside capacity (events ++ event ∷ []) (most_behind event n (most_kept capacity after))

pub perhaps_follows : (capacity : Capacity) (events : List Event) (event : Event) (before after : Kept) → Follows capacity events event before after
perhaps_follows capacity events (PutBegin items) before after j j' c n is = perhaps_grows capacity events (PutBegin items) before after j j' n is
perhaps_follows capacity events event before after j j' c n is = perhaps_stays capacity events event before after j j' n (comes_in capacity before event after c) is

-- ---- before the first event

no_beginning : (before rest : List Event) → [] ≡ before ++ rest → [] ≡ before
no_beginning [] rest e = refl
no_beginning (b ∷ before) rest e = absurd (omega (arith, ap length e))

module _ (capacity : Capacity) (proper : IsProper capacity) where
  nothing : Stands capacity [] (kept [] Free Rests false)
  nothing = keeps_nothing capacity proper

  none_most : (c : Capacity) → most_kept c (kept [] Free Rests false) ≤ 0
  none_most c = grind arith

  none_surely : Surely capacity (λ inside. inside ≤ 0) []
  none_surely = surely_more capacity [] (most_kept capacity (kept [] Free Rests false)) 0 (none_most capacity) (most_surely capacity [] (kept [] Free Rests false) nothing)

  none_perhaps : Perhaps capacity (λ inside. inside ≡ 0) []
  none_perhaps = least_perhaps capacity [] (kept [] Free Rests false) nothing

  pub surely_none : IsSurelyInside capacity [] 0
  surely_none = grind (arith, none_perhaps, no_beginning)

  pub perhaps_none : IsPerhapsInside capacity [] 0
  perhaps_none = grind (arith, no_beginning, none_surely, none_perhaps)
