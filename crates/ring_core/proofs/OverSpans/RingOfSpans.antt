-- The law of the ring over spans, as it is proved; the law over calls is derived from it.
use Rattle.std.specs.Prelude.{◌≡◌, ℕ, suc, ◌+◌, ◌-◌, ◌*◌, ◌<◌, ◌≤◌, ◌%◌, false, Some, List, length, slice_get}
use Rattle.ring_core.proofs.Common.{Side, P, C, Shape, batch_of, capacity_of, modulus_of, take_batch_of, width_of, subhistory, clock, IsPlaceOf, distance, first_count, Puts, put_phrases, Takes}
use Rattle.ring_core.proofs.Common.{events_in, items_put, IsInterval, TakenArePrefix, ClosedIsTrue}
use Rattle.bits_core.specs.declared.events.Event.{Event}
use Rattle.bits_core.specs.Intervals as intervals
use Rattle.ring_core.proofs.OverSpans.Spans.{Span, Asks, counts, items_of, before_count, counts_begun, counts_ended, IsSpanAt, sizes, tally}
use Rattle.ring_core.proofs.OverSpans.Clocks.{IsPlace}
use Rattle.ring_core.proofs.OverSpans.LookSpans.{put_spans, take_spans}

-- the items of the puts whose count write has begun before a place
abbrev pub puts_begun : Shape → List Event → Puts → ℕ → ℕ
puts_begun shape h puts t = counts_begun (put_spans shape puts) (clock P h t)

abbrev pub puts_ended : Shape → List Event → Puts → ℕ → ℕ
puts_ended shape h puts t = counts_ended (put_spans shape puts) (clock P h t)

abbrev pub takes_begun : Shape → List Event → Takes → ℕ → ℕ
takes_begun shape h takes t = counts_begun (take_spans shape takes) (clock C h t)

abbrev pub takes_ended : Shape → List Event → Takes → ℕ → ℕ
takes_ended shape h takes t = counts_ended (take_spans shape takes) (clock C h t)

-- An ended scan returns, modulo the modulus, the number of items counted by the other side's count writes up to one of them: a
-- number from least to most, not less than that of the writes ended when the scan began, nor more than that of the writes begun
-- before it ended.
pub record ReadsCount (modulus : ℕ) (subhistory other : ℕ → ℕ) (writes : List Span) (s : ℕ) (x : Span) (least most : ℕ) : Type 0 where
  pub number : ℕ
  pub write : ℕ
  pub tallies : number ≡ tally (sizes writes) write
  pub value : x.seen ≡ number % modulus
  pub low : least ≤ number
  pub high : number ≤ most
  pub not_older : (first : ℕ) → IsPlace subhistory s first → counts_ended writes (other first) ≤ number
  pub not_newer : (last : ℕ) → IsPlace subhistory (s + (x.scan - 1)) last → number ≤ counts_begun writes (other last)

-- word access number i of a look, from its first start to its last end, for a look at its side's own event s
abbrev pub IsWordAccess : Side → Shape → List Event → ℕ → Span → ℕ → ℕ → ℕ → Type 0
IsWordAccess side shape h s x i start stop =
    IsInterval side h (s + x.scan + 2 * (i * width_of shape)) (s + x.scan + 2 * (suc i * width_of shape) - 1) start stop

-- a put after n items reads a count from n - capacity - take batch to n
abbrev pub PutsAreInRange : Shape → List Event → Puts → Takes → Type 0
PutsAreInRange shape h puts takes =
    (s n : ℕ) (x : Span) → IsSpanAt (put_spans shape puts) s n x → s + x.scan ≤ length (subhistory P h) →
    ReadsCount (modulus_of shape) (clock P h) (clock C h) (take_spans shape takes) s x (n - (capacity_of shape + take_batch_of shape)) n

-- take number k reads counts from k - batch to k + capacity
abbrev pub TakesAreInRange : Shape → List Event → Puts → Takes → Type 0
TakesAreInRange shape h puts takes =
    (s k : ℕ) (x : Span) → IsSpanAt (take_spans shape takes) s k x → s + x.scan ≤ length (subhistory C h) →
    ReadsCount (modulus_of shape) (clock C h) (clock P h) (put_spans shape puts) s x (k - batch_of shape) (k + capacity_of shape)

-- no word read of a cell overlaps a word write of it
abbrev pub CellsAreQuiet : Shape → List Event → Puts → Takes → Type 0
CellsAreQuiet shape h puts takes =
    (s n i : ℕ) (x : Span) → IsSpanAt (put_spans shape puts) s n x → i < counts x.outcome →
    (s' k i' : ℕ) (y : Span) → IsSpanAt (take_spans shape takes) s' k y → i' < counts y.outcome → (n + i) % capacity_of shape ≡ (k + i') % capacity_of shape →
    (start stop start' stop' : ℕ) → IsWordAccess P shape h s x i start stop → IsWordAccess C shape h s' y i' start' stop' →
    ¬ intervals.Overlap start stop start' stop'

-- word read i of a take after k items, once it has ended, has item number k + i of those put
abbrev pub TakesMatchPuts : Shape → List Event → Puts → Takes → Type 0
TakesMatchPuts shape h puts takes =
    (t s k i : ℕ) (x : Span) (item : ℕ) → IsSpanAt (take_spans shape takes) s k x → slice_get (items_of x.outcome) i ≡ Some item →
    s + x.scan + 2 * (suc i * width_of shape) ≤ clock C h t → slice_get (items_put shape first_count puts.puts (clock P h t)) (k + i) ≡ Some item

-- a take that finds the ring empty: each item of a put that had ended when it began was taken by a take that had ended by then, and
-- no close had ended
abbrev pub EmptyIsFresh : Shape → List Event → Puts → Takes → Type 0
EmptyIsFresh shape h puts takes =
    (s k : ℕ) (x : Span) → IsSpanAt (take_spans shape takes) s k x → x.outcome ≡ Asks false → s + before_count x ≤ length (subhistory C h) →
    (first : ℕ) → IsPlaceOf C h s first →
    (puts_ended shape h puts first ≤ takes_ended shape h takes first) × (clock P h first < events_in (put_phrases shape first_count puts.puts) + 2)

-- the law for a run
pub record LawOfSpans (shape : Shape) (h : List Event) (puts : Puts) (takes : Takes) : Type 0 where
  -- at every moment no more items are taken than put, and those put and not taken are no more than the ring has cells
  pub within :
      (t : ℕ) → (takes_begun shape h takes t ≤ puts_begun shape h puts t) × (puts_begun shape h puts t ≤ takes_begun shape h takes t + capacity_of shape)
  pub put_range : PutsAreInRange shape h puts takes
  pub take_range : TakesAreInRange shape h puts takes
  pub quiet : CellsAreQuiet shape h puts takes
  pub prefix : TakenArePrefix shape h puts takes
  pub items : TakesMatchPuts shape h puts takes
  pub empty : EmptyIsFresh shape h puts takes
  pub closed : ClosedIsTrue shape h puts takes
  -- a put that finds the ring full: the items stored before it, less those of takes that had ended when it began, are at least
  -- the capacity
  pub full :
      (s n : ℕ) (x : Span) → IsSpanAt (put_spans shape puts) s n x → counts x.outcome ≡ 0 → s + x.scan ≤ length (subhistory P h) →
      (first : ℕ) → IsPlaceOf P h s first → takes_ended shape h takes first + capacity_of shape ≤ n
  -- a put whose items fill all the room that its scan left: the items stored up to and including it, less those of takes that had
  -- ended when it began, are at least the capacity
  pub fill :
      (s n : ℕ) (x : Span) → IsSpanAt (put_spans shape puts) s n x →
      distance (modulus_of shape) (n % modulus_of shape) x.seen + counts x.outcome ≡ capacity_of shape → s + x.scan ≤ length (subhistory P h) →
      (first : ℕ) → IsPlaceOf P h s first → takes_ended shape h takes first + capacity_of shape ≤ n + counts x.outcome
  -- a take that takes all the items that its scan showed
  pub drain :
      (s k : ℕ) (x : Span) → IsSpanAt (take_spans shape takes) s k x → 1 ≤ counts x.outcome →
      distance (modulus_of shape) x.seen (k % modulus_of shape) ≡ counts x.outcome → s + x.scan ≤ length (subhistory C h) →
      (first : ℕ) → IsPlaceOf C h s first → puts_ended shape h puts first ≤ k + counts x.outcome
