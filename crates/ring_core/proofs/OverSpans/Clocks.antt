-- Two sides on one history: clocks that count their events, and what the registers guarantee about a scan.
use Rattle.std.specs.Prelude.{◌≡◌, ◌⊎◌, ℕ, suc, ◌+◌, ◌*◌, ◌<◌, ◌≤◌, ◌%◌, Bool, true, false, Some, List, slice_get}
use Rattle.ring_core.specs.Counts.{distance}
use Rattle.ring_core.proofs.OverSpans.Spans.{Span, Asks, counts, items_of, before_count, counts_begun, counts_ended, total, IsSpanAt, sizes, tally}

-- The clock of a side says how many of its events come before a position of the history. Each event is of one side.
pub record Clocks (p c : ℕ → ℕ) : Type 0 where
  pub producer : p 0 ≡ 0
  pub consumer : c 0 ≡ 0
  pub tick :
      (t : ℕ) → ((p (suc t) ≡ suc (p t)) × (c (suc t) ≡ c t)) ⊎ ((p (suc t) ≡ p t) × (c (suc t) ≡ suc (c t))) ⊎ ((p (suc t) ≡ p t) × (c (suc t) ≡ c t))

-- the side's own event number i is at position t of the history
abbrev pub IsPlace : (ℕ → ℕ) → ℕ → ℕ → Type 0
IsPlace clock i t = (clock t ≡ i) × (clock (suc t) ≡ suc i)

-- The value of a scan from position first to position last is the number of the items counted by the other side's count
-- writes up to one that had not been overwritten before the scan began and that began before the scan ended.
pub record Permitted (modulus : ℕ) (other : ℕ → ℕ) (writes : List Span) (first last seen : ℕ) : Type 0 where
  pub number : ℕ
  pub write : ℕ
  pub tallies : number ≡ tally (sizes writes) write
  pub not_older : counts_ended writes (other first) ≤ number
  pub not_newer : number ≤ counts_begun writes (other last)
  pub value : seen ≡ number % modulus

-- the law of the unary register, for each ended scan of one side
abbrev pub AreRegular : ℕ → (own other : ℕ → ℕ) → (scans writes : List Span) → Type 0
AreRegular modulus own other scans writes =
    (s n : ℕ) (x : Span) → IsSpanAt scans s n x → (first last e : ℕ) → IsPlace own s first → IsPlace own e last → suc e ≡ s + x.scan →
    Permitted modulus other writes first last x.seen

-- A put after n items stores some if the count that it read leaves room for them, and finds the ring full if it leaves none.
pub record IsPutSpan (modulus capacity n : ℕ) (x : Span) : Type 0 where
  pub room : 1 ≤ counts x.outcome → distance modulus (n % modulus) x.seen + counts x.outcome ≤ capacity
  pub full : counts x.outcome ≡ 0 → capacity ≤ distance modulus (n % modulus) x.seen

-- A take after k items takes no more than the count that it read shows, and none exactly when that shows none.
pub record IsTakeSpan (modulus capacity k : ℕ) (x : Span) : Type 0 where
  pub item : 1 ≤ counts x.outcome → (counts x.outcome ≤ distance modulus x.seen (k % modulus)) × (distance modulus x.seen (k % modulus) ≤ capacity)
  pub none : counts x.outcome ≡ 0 → (distance modulus x.seen (k % modulus) ≡ 0) ⊎ (capacity < distance modulus x.seen (k % modulus))

-- a word write of a put is of the cell
pub record WritesCell (capacity : ℕ) (puts : List Span) (cell : ℕ) : Type 0 where
  pub start : ℕ
  pub number : ℕ
  pub put : Span
  pub index : ℕ
  pub stands : IsSpanAt puts start number put
  pub same_cell : (number + index) % capacity ≡ cell

-- A word write of a put is of the cell, and neither the put's word writes nor the read of the cell end before the other begin.
-- The read begins at position first, and ends at position last or is open there.
pub record CellOverlap (capacity : ℕ) (p : ℕ → ℕ) (puts : List Span) (cell first last : ℕ) : Type 0 where
  pub write : WritesCell capacity puts cell
  pub open write use *
  pub stored : index < counts put.outcome
  pub begun_before : start + put.scan < p last
  pub not_ended : p first < start + before_count put

-- The last word write of the cell whose put had ended its word writes before position first, and its item: no put with a later
-- one had begun them.
pub record IsLastWrite (capacity : ℕ) (p : ℕ → ℕ) (puts : List Span) (cell first item : ℕ) : Type 0 where
  pub write : WritesCell capacity puts cell
  pub open write use *
  pub stored : slice_get (items_of put.outcome) index ≡ Some item
  pub had_ended : start + before_count put ≤ p first
  pub no_later :
      (s n i : ℕ) (y : Span) → IsSpanAt puts s n y → i < counts y.outcome → (n + i) % capacity ≡ cell → number + index < n + i → s + y.scan ≤ p first → ⊥

-- Word access number i of a look, each of `word` events, ends with this event.
abbrev pub word_end : ℕ → ℕ → Span → ℕ → ℕ
word_end word s x i = s + x.scan + suc i * word

-- The law of the safe word: a word read that no word write of its cell overlaps returns the item last written.
abbrev pub AreSafe : (capacity word : ℕ) → (p c : ℕ → ℕ) → (puts takes : List Span) → Type 0
AreSafe capacity word p c puts takes =
    (s k i : ℕ) (x : Span) (item : ℕ) → IsSpanAt takes s k x → slice_get (items_of x.outcome) i ≡ Some item →
    (first last e : ℕ) → IsPlace c (s + x.scan + i * word) first → IsPlace c e last → suc e ≡ word_end word s x i →
    (CellOverlap capacity p puts ((k + i) % capacity) first last → ⊥) →
    (written : ℕ) → IsLastWrite capacity p puts ((k + i) % capacity) first written → item ≡ written

-- The law of the close bit. The close comes after all puts: its start is event number `total puts`, its end the next one.
abbrev pub AreCloseReads : (p c : ℕ → ℕ) → (puts takes : List Span) → Type 0
AreCloseReads p c puts takes =
    (s k : ℕ) (x : Span) (answer : Bool) → IsSpanAt takes s k x → x.outcome ≡ Asks answer →
    (first last e : ℕ) → IsPlace c (s + x.scan) first → IsPlace c e last → suc e ≡ s + before_count x →
    (answer ≡ false → p first < total puts + 2) × (answer ≡ true → total puts < p last)

-- What the law of the ring depends on: two sides on one history, whose spans follow the rules of puts and takes, and
-- the laws of the registers between them. A put stores at most `batch` items, a take takes at most `more`, and each of
-- its word accesses has `word` events.
pub record Ring (modulus capacity batch more word : ℕ) (p c : ℕ → ℕ) (puts takes : List Span) : Type 0 where
  pub modulus_fits : suc (capacity + batch) ≤ modulus
  pub has_batch : 1 ≤ batch
  pub modulus_fits_takes : suc (capacity + more) ≤ modulus
  pub has_more : 1 ≤ more
  pub clocks : Clocks p c
  pub puts_rule : (s n : ℕ) (x : Span) → IsSpanAt puts s n x → IsPutSpan modulus capacity n x
  pub takes_rule : (s k : ℕ) (x : Span) → IsSpanAt takes s k x → IsTakeSpan modulus capacity k x
  pub puts_regular : AreRegular modulus p c puts takes
  pub takes_regular : AreRegular modulus c p takes puts
  pub words_safe : AreSafe capacity word p c puts takes
  pub close_reads : AreCloseReads p c puts takes
  -- a word access has an event, and so has a read of the close bit; the word accesses of a take are as long as one another
  pub has_word : 1 ≤ word
  pub takes_words : (s k : ℕ) (x : Span) → IsSpanAt takes s k x → 1 ≤ counts x.outcome → x.word ≡ counts x.outcome * word
  pub asks_words : (s k : ℕ) (x : Span) (answer : Bool) → IsSpanAt takes s k x → x.outcome ≡ Asks answer → 1 ≤ x.word
