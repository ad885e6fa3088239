-- The counts of the two sides at each moment: what scans read of them, and the two gates.
use Rattle.std.proofs.Common.{◌≡◌, ◌⊎◌, inl, inr, ℕ, zero, suc, ◌+◌, ◌-◌, ◌<◌, ◌≤◌, ◌%◌, List, [], ◌∷◌, subst, zero-add, suc-add, add-zero, arith}
use Rattle.ring_core.specs.Counts.{distance}
use Rattle.ring_core.proofs.OverSpans.Spans.{Span, counts, counts_begun, counts_ended, IsSpanAt, sizes, tally}
use Rattle.ring_core.proofs.OverSpans.Clocks.{Clocks, IsPlace, AreRegular, Ring}
use Rattle.ring_core.proofs.Readings.Cuts.{at_most_or_above}
use Rattle.ring_core.proofs.OverSpans.Timeline.{Proper, AllProper, before-whole, begun_zero, ended_begun, begun_at, begun_step, begun_up}
use Rattle.ring_core.proofs.OverSpans.Distances.{distance_of}
use Rattle.std.proofs.Math.Nat.{add-mod_right}

-- a clock that begins at 0 and advances by at most one
pub record Clock (p : ℕ → ℕ) : Type 0 where
  pub start : p 0 ≡ 0
  pub tick : (t : ℕ) → (p t ≤ p (suc t)) × (p (suc t) ≤ suc (p t))

-- a clock never falls
pub clock_up : (p : ℕ → ℕ) → Clock p → (t u : ℕ) → t ≤ u → p t ≤ p u
clock_up p h t u l = subst (λ m. p t ≤ p m) (omega arith) (go (u - t))
  where
    go : (k : ℕ) → p t ≤ p (k + t)
    go zero = rw zero-add (omega arith)
    go (suc k) = rw suc-add (omega (arith, h.tick (k + t), go k))

-- the position of event i, before position t
pub record Placed (p : ℕ → ℕ) (i t : ℕ) : Type 0 where
  pub place : ℕ
  pub before : place < t
  pub is : IsPlace p i place

-- each event that a clock has counted has a position
pub place_of : (p : ℕ → ℕ) → Clock p → (i t : ℕ) → i < p t → Placed p i t
place_of p h i zero l = absurd (omega (arith, h.start))
place_of p h i (suc t) l = elim (at_most_or_above (suc i) (p t)) [
  | inl m ↦ grind (arith, place_of p h i t m)
  | inr m ↦ record { place = t; before = omega arith; is = omega (arith, h.tick t) }
]

-- the producer's clock is such a clock
pub clock_p : (p c : ℕ → ℕ) → Clocks p c → Clock p
clock_p p c h = search arith

-- and so is the consumer's
pub clock_c : (p c : ℕ → ℕ) → Clocks p c → Clock c
clock_c p c h = search arith

-- an event has one position
place_unique : (p : ℕ → ℕ) → Clock p → (i t u : ℕ) → IsPlace p i t → IsPlace p i u → t ≡ u
place_unique p h i t u a b = elim (at_most_or_above t u) [
  | inr l ↦ absurd (omega (arith, clock_up p h (suc u) t l, a, b))
  | inl l ↦ elim (at_most_or_above u t) [
    | inl m ↦ omega arith
    | inr m ↦ absurd (omega (arith, clock_up p h (suc t) u m, a, b))
  ]
]

-- What is known about the number that the scan of span x has read, once it has ended: the positions of its two ends, and the
-- counts of both sides there.
record Read (modulus : ℕ) (own other : ℕ → ℕ) (scans writes : List Span) (t s n : ℕ) (x : Span) : Type 0 where
  pub first : ℕ
  pub last : ℕ
  pub number : ℕ
  pub in_order : first ≤ last
  pub by_now : last ≤ t
  pub first_is : IsPlace own s first
  pub last_is : IsPlace own (s + (x.scan - 1)) last
  pub at_first : counts_begun scans (own first) ≡ n
  pub at_last : counts_begun scans (own last) ≡ n
  pub not_older : counts_ended writes (other first) ≤ number
  pub not_newer : number ≤ counts_begun writes (other last)
  pub still : counts_begun writes (other last) ≤ counts_begun writes (other t)
  pub value : x.seen ≡ number % modulus
  pub write : ℕ
  pub tallies : number ≡ tally (sizes writes) write

-- this is known about each scan that has ended
read_of :
    (modulus : ℕ) (own other : ℕ → ℕ) → Clock own → Clock other → (most most' : ℕ) (scans writes : List Span) → AllProper most scans → AllProper most' writes →
    AreRegular modulus own other scans writes →
    (t s n : ℕ) (x : Span) → Proper most x → IsSpanAt scans s n x → s + x.scan ≤ own t → Read modulus own other scans writes t s n x
read_of modulus own other ho hw most most' scans writes ps pw regular t s n x px st l =
    let w = before-whole most x px in
    let e : ℕ = s + (x.scan - 1) in
    let f = place_of own ho s t (omega arith) in
    let g = place_of own ho e t (omega arith) in
    let law = regular s n x st f.place g.place e f.is g.is (omega arith) in
    record {
      first = f.place;
      last = g.place;
      number = law.number;
      in_order = elim (at_most_or_above f.place g.place) [
        | inl m ↦ m
        | inr m ↦ absurd (omega (arith, clock_up own ho (suc g.place) f.place m, f.is, g.is))
      ];
      by_now = omega (arith, g.before);
      first_is = f.is;
      last_is = g.is;
      at_first = rw f.is.0 (rw add-zero at (begun_at most scans ps s n x st 0 (omega arith)));
      at_last = rw g.is.0 (begun_at most scans ps s n x st (x.scan - 1) (omega (arith, w)));
      not_older = law.not_older;
      not_newer = law.not_newer;
      still = begun_up most' writes pw _ _ (clock_up other hw g.place t (omega (arith, g.before)));
      value = law.value;
      write = law.write;
      tallies = law.tallies;
    }

-- what it has read, between these bounds
pub record Reads (modulus : ℕ) (own other : ℕ → ℕ) (writes : List Span) (Low High : ℕ → Type 0) (t s : ℕ) (x : Span) : Type 0 where
  pub number : ℕ
  pub value : x.seen ≡ number % modulus
  pub low : Low number
  pub high : High number
  pub now : number ≤ counts_begun writes (other t)
  pub since : (first : ℕ) → IsPlace own s first → counts_ended writes (other first) ≤ number
  pub until : (last : ℕ) → IsPlace own (s + (x.scan - 1)) last → number ≤ counts_begun writes (other last)
  pub write : ℕ
  pub tallies : number ≡ tally (sizes writes) write

reads_so :
    (modulus : ℕ) (own other : ℕ → ℕ) → Clock own → (scans writes : List Span) (Low High : ℕ → Type 0) (t s n : ℕ) (x : Span) → (r : Read modulus own other scans writes t s n x) →
    Low r.number → High r.number → Reads modulus own other writes Low High t s x
reads_so modulus own other ho scans writes Low High t s n x r low high = record {
  number = r.number;
  value = r.value;
  low = low;
  high = high;
  now = omega (arith, r.not_newer, r.still);
  since = λ first is. rw (place_unique own ho s first r.first is r.first_is) r.not_older;
  until = λ last is. rw (place_unique own ho (s + (x.scan - 1)) last r.last is r.last_is) r.not_newer;
  write = r.write;
  tallies = r.tallies;
}

-- each span is proper
pub proper_at : (most : ℕ) (xs : List Span) → AllProper most xs → (s n : ℕ) (x : Span) → IsSpanAt xs s n x → Proper most x
proper_at most [] h s n x st = elim st [ ]
proper_at most (y ∷ ys) h s n x (inl st) = rw st.2 h.0
proper_at most (y ∷ ys) h s n x (inr st) = proper_at most ys h.1 st.0 st.1 x st.4

-- a scan that has ended has read a number between bounds that hold for the counts when it began and when it ended
reads_between :
    (modulus : ℕ) (own other : ℕ → ℕ) → Clock own → Clock other → (most most' : ℕ) (scans writes : List Span) → AllProper most scans → AllProper most' writes →
    AreRegular modulus own other scans writes → (Low High : ℕ → Type 0) (t s n : ℕ) (x : Span) → IsSpanAt scans s n x → s + x.scan ≤ own t →
    ((first number : ℕ) → first ≤ t → counts_begun scans (own first) ≡ n → counts_begun writes (other first) ≤ number + most' → Low number) →
    ((last number : ℕ) → last ≤ t → counts_begun scans (own last) ≡ n → number ≤ counts_begun writes (other last) → High number) →
    Reads modulus own other writes Low High t s x
reads_between modulus own other ho hw most most' scans writes ps pw regular Low High t s n x st l low high =
    let r = read_of modulus own other ho hw most most' scans writes ps pw regular t s n x (proper_at most scans ps s n x st) st l in
    let ended = ended_begun most' writes pw (other r.first) in
    reads_so modulus own other ho scans writes Low High t s n x r
    (low r.first r.number (omega (arith, r.in_order, r.by_now)) r.at_first (omega (arith, ended, r.not_older))) (high r.last r.number r.by_now r.at_last r.not_newer)

module _ (modulus capacity batch more word : ℕ) (p c : ℕ → ℕ) (puts takes : List Span) (ring : Ring modulus capacity batch more word p c puts takes)
    (proper_puts : AllProper batch puts) (proper_takes : AllProper more takes) where
  hp : Clock p
  hp = clock_p p c ring.clocks

  hc : Clock c
  hc = clock_c p c ring.clocks

  -- the counts of the two sides
  abbrev pub Within : ℕ → Type 0
  Within t = (counts_begun takes (c t) ≤ counts_begun puts (p t)) × (counts_begun puts (p t) ≤ counts_begun takes (c t) + capacity)

  -- what a scan of the consumer reads
  abbrev pub Shown : (t s k : ℕ) → Span → Type 0
  Shown t s k x = Reads modulus c p puts (λ number. k ≤ number + batch) (λ number. number ≤ k + capacity) t s x

  -- each scan of the consumer that has ended has read that, if the counts were right up to now
  shown : (t : ℕ) → ((u : ℕ) → u ≤ t → Within u) → (s k : ℕ) (x : Span) → IsSpanAt takes s k x → s + x.scan ≤ c t → Shown t s k x
  shown t within s k x st l =
      reads_between modulus c p hc hp more batch takes puts proper_takes proper_puts ring.takes_regular _ _ t s k x st l
      (λ first number by here older. omega (arith, within first by, here, older)) (λ last number by here newer. omega (arith, within last by, here, newer))

  -- what a scan of the producer reads
  abbrev pub Left : (t s n : ℕ) → Span → Type 0
  Left t s n x = Reads modulus p c takes (λ number. n ≤ number + capacity + more) (λ number. number ≤ n) t s x

  -- the same for a scan of the producer
  left : (t : ℕ) → ((u : ℕ) → u ≤ t → Within u) → (s n : ℕ) (x : Span) → IsSpanAt puts s n x → s + x.scan ≤ p t → Left t s n x
  left t within s n x st l =
      reads_between modulus p c hp hc batch more puts takes proper_puts proper_takes ring.puts_regular _ _ t s n x st l
      (λ first number by here older. omega (arith, within first by, here, older)) (λ last number by here newer. omega (arith, within last by, here, newer))

  -- a take that takes items has read a count that shows them
  shows_items : (t s k : ℕ) (x : Span) → IsSpanAt takes s k x → (r : Shown t s k x) → 1 ≤ counts x.outcome → k + counts x.outcome ≤ r.number
  shows_items t s k x st r o =
      let rule : (counts x.outcome ≤ distance modulus (r.number % modulus) (k % modulus)) × (distance modulus (r.number % modulus) (k % modulus) ≤ capacity) =
      rw r.value at ((ring.takes_rule s k x st).item o) in
      elim (at_most_or_above k r.number) [
        | inl l ↦ omega (arith, rule, distance_of modulus k r.number l (omega (arith, r.high)))
        | inr l ↦ absurd (grind (arith, rule, r.low, add-mod_right r.number modulus, distance_of modulus k (r.number + modulus) (omega arith) (omega arith)))
      ]

  -- a take that takes none has read one that shows none
  pub shows_none : (t s k : ℕ) (x : Span) → IsSpanAt takes s k x → (r : Shown t s k x) → counts x.outcome ≡ 0 → r.number ≤ k
  shows_none t s k x st r o =
      let rule : (distance modulus (r.number % modulus) (k % modulus) ≡ 0) ⊎ (capacity < distance modulus (r.number % modulus) (k % modulus)) =
      rw r.value at ((ring.takes_rule s k x st).none o) in
      elim (at_most_or_above r.number k) [
        | inl l ↦ l
        | inr l ↦ absurd (omega (arith, rule, distance_of modulus k r.number (omega arith) (omega (arith, r.high)), r.high))
      ]

  -- a put that stores items has read a count that leaves room for them
  leaves_room : (t s n : ℕ) (x : Span) → IsSpanAt puts s n x → (r : Left t s n x) → 1 ≤ counts x.outcome → n + counts x.outcome ≤ r.number + capacity
  leaves_room t s n x st r o =
      let fits = ring.modulus_fits_takes in
      let rule : distance modulus (n % modulus) (r.number % modulus) + counts x.outcome ≤ capacity = rw r.value at ((ring.puts_rule s n x st).room o) in
      omega (arith, rule, distance_of modulus r.number n r.high (omega (arith, r.low, fits)), r.high)

  -- a put that stores none has read one that leaves no room
  pub leaves_none : (t s n : ℕ) (x : Span) → IsSpanAt puts s n x → (r : Left t s n x) → counts x.outcome ≡ 0 → r.number + capacity ≤ n
  leaves_none t s n x st r o =
      let fits = ring.modulus_fits_takes in
      let rule : capacity ≤ distance modulus (n % modulus) (r.number % modulus) = rw r.value at ((ring.puts_rule s n x st).full o) in
      omega (arith, rule, distance_of modulus r.number n r.high (omega (arith, fits, r.low)), r.high)

  -- a take that found items: the count writes of the puts of all of them have begun
  taken_behind :
      (t : ℕ) → ((u : ℕ) → u ≤ t → Within u) →
      (s k : ℕ) (x : Span) → IsSpanAt takes s k x → 1 ≤ counts x.outcome → s + x.scan ≤ c t → k + counts x.outcome ≤ counts_begun puts (p t)
  taken_behind t within s k x st o l =
      let r = shown t within s k x st l in
      omega (arith, shows_items t s k x st r o, r.now)

  -- a put that found room: the takes of all items more than the capacity below its last one have begun their count write
  room_ahead :
      (t : ℕ) → ((u : ℕ) → u ≤ t → Within u) →
      (s n : ℕ) (x : Span) → IsSpanAt puts s n x → 1 ≤ counts x.outcome → s + x.scan ≤ p t → n + counts x.outcome ≤ counts_begun takes (c t) + capacity
  room_ahead t within s n x st o l =
      let r = left t within s n x st l in
      omega (arith, leaves_room t s n x st r o, r.now)

  -- the gates keep the counts right at the next moment
  step_put : (t : ℕ) → ((u : ℕ) → u ≤ t → Within u) → p (suc t) ≡ suc (p t) → c (suc t) ≡ c t → Within (suc t)
  step_put t within e f = rw (e, f) (elim (begun_step batch puts proper_puts (p t)) [
    | inl same ↦ rw same (within t (omega arith))
    | inr x ↦ (
        let w = before-whole batch x.span (proper_at batch puts proper_puts x.start x.number x.span x.stands) in
        let room = room_ahead t within x.start x.number x.span x.stands x.passes (omega (arith, x.place, w)) in
        omega (arith, within t (omega arith), room, x.now, x.next))
  ])

  step_take : (t : ℕ) → ((u : ℕ) → u ≤ t → Within u) → p (suc t) ≡ p t → c (suc t) ≡ suc (c t) → Within (suc t)
  step_take t within e f = rw (e, f) (elim (begun_step more takes proper_takes (c t)) [
    | inl same ↦ rw same (within t (omega arith))
    | inr x ↦ (
        let proper = proper_at more takes proper_takes x.start x.number x.span x.stands in
        let w = before-whole more x.span proper in
        let behind = taken_behind t within x.start x.number x.span x.stands x.passes (omega (arith, x.place, w)) in
        omega (arith, within t (omega arith), behind, x.now, x.next))
  ])

  within_step : (t : ℕ) → ((u : ℕ) → u ≤ t → Within u) → Within (suc t)
  within_step t within = elim (ring.clocks.tick t) [
    | inl e ↦ step_put t within e.0 e.1
    | inr (inl e) ↦ step_take t within e.0 e.1
    | inr (inr e) ↦ rw (e.0, e.1) (within t (omega arith))
  ]

  within_below : (t : ℕ) → (u : ℕ) → u ≤ t → Within u
  within_below zero u l =
      let z : u ≡ 0 = omega arith in
      rw (z, ring.clocks.producer, ring.clocks.consumer) (omega (arith, begun_zero puts, begun_zero takes))
  within_below (suc t) u l = elim (at_most_or_above u t) [
    | inl m ↦ within_below t u m
    | inr m ↦ (
        let e : u ≡ suc t = omega arith in
        rw e (within_step t (within_below t)))
  ]

  -- at every moment the items put and not taken are at most the capacity
  pub within : (t : ℕ) → Within t
  within t = within_below t t (omega arith)

  -- so at every moment each scan of the consumer that has ended has read that
  pub shown_at : (t s k : ℕ) (x : Span) → IsSpanAt takes s k x → s + x.scan ≤ c t → Shown t s k x
  shown_at t = shown t (λ u _. within u)

  -- and likewise each scan of the producer
  pub left_at : (t s n : ℕ) (x : Span) → IsSpanAt puts s n x → s + x.scan ≤ p t → Left t s n x
  left_at t = left t (λ u _. within u)

  -- from the end of its scan on, the takes, with the items that this take found, do not get ahead of the puts
  pub behind : (t s k : ℕ) (x : Span) → IsSpanAt takes s k x → 1 ≤ counts x.outcome → s + x.scan ≤ c t → k + counts x.outcome ≤ counts_begun puts (p t)
  behind t = taken_behind t (λ u _. within u)

  -- and a put that found room is, with its items, at most the capacity ahead of the takes
  pub ahead :
      (t s n : ℕ) (x : Span) → IsSpanAt puts s n x → 1 ≤ counts x.outcome → s + x.scan ≤ p t → n + counts x.outcome ≤ counts_begun takes (c t) + capacity
  ahead t = room_ahead t (λ u _. within u)
