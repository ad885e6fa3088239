-- The law of the ring at every moment, over the clocks of two sides and the spans of their events.
use Rattle.std.specs.Prelude.{slice_get, Some}
use Rattle.std.proofs.Common.{◌≡◌, inr, ℕ, ◌+◌, ◌-◌, ◌<◌, ◌≤◌, ◌%◌, true, false, List, [], ◌∷◌, length, drop, refl, sym, ap, arith}
use Rattle.ring_core.proofs.Common.{IsPrefix, distance}
use Rattle.ring_core.proofs.OverSpans.Spans.{Span, Asks, counts, items_of, before_count, whole, counts_begun, counts_ended, begun_items, ended_items, all_items, total, IsSpanAt}
use Rattle.ring_core.proofs.OverSpans.RingOfSpans.{ReadsCount}
use Rattle.ring_core.proofs.OverSpans.Clocks.{IsPlace, CellOverlap, word_end, Ring}
use Rattle.ring_core.proofs.OverSpans.Timeline.{AllProper, before-whole}
use Rattle.ring_core.proofs.OverSpans.Gates.{clock_up, clock_c, proper_at, within, shown_at, left_at}
use Rattle.ring_core.proofs.OverSpans.SpanItems.{quiet, taken_item, prefix, empty_fresh, empty_open, full_fresh, fill_fresh, drain_fresh, closed}

-- The last two spans are a read of the close bit, which returns 1, and then a scan after which nothing is taken.
pub record LastTwo (xs : List Span) : Type 0 where
  pub start : ℕ
  pub number : ℕ
  pub asked : Span
  pub stopped : Span
  pub asked_stands : IsSpanAt xs start number asked
  pub asked_is : asked.outcome ≡ Asks true
  pub stopped_stands : IsSpanAt xs (start + whole asked) number stopped
  pub stopped_is : counts stopped.outcome ≡ 0
  pub at_end : start + whole asked + stopped.scan ≤ total xs

-- two such spans
pub two_last : (x z : Span) → x.outcome ≡ Asks true → counts z.outcome ≡ 0 → LastTwo (x ∷ z ∷ [])
two_last x z asks stops = grind arith

-- and with one more span before them
pub two_after : (y : Span) (xs : List Span) → LastTwo xs → LastTwo (y ∷ xs)
two_after y xs r = record {
  start = whole y + r.start;
  number = counts y.outcome + r.number;
  asked = r.asked;
  stopped = r.stopped;
  asked_stands = inr (r.start, r.number, refl, refl, r.asked_stands);
  asked_is = r.asked_is;
  stopped_stands = inr (r.start + whole r.asked, r.number, omega arith, refl, r.stopped_stands);
  stopped_is = r.stopped_is;
  at_end = omega (arith, r.at_end);
}

-- by moment t the consumer has ended its last take, which returned Closed
pub record IsToldAt (c : ℕ → ℕ) (takes : List Span) (t : ℕ) : Type 0 where
  pub two : LastTwo takes
  pub ended : total takes ≤ c t

-- What holds for a ring at every moment.
pub record SpanLaw (modulus capacity batch more word : ℕ) (p c : ℕ → ℕ) (puts takes : List Span) : Type 0 where
  -- at most as many items are put and not taken as the ring holds
  pub within : (t : ℕ) → (counts_begun takes (c t) ≤ counts_begun puts (p t)) × (counts_begun puts (p t) ≤ counts_begun takes (c t) + capacity)
  -- put number n reads a count from n - capacity - more to n
  pub put_range :
      (t s n : ℕ) (x : Span) → IsSpanAt puts s n x → s + x.scan ≤ p t → ReadsCount modulus p c takes s x (n - (capacity + more)) n
  -- a take after k items reads a count from k - batch to k + capacity
  pub take_range :
      (t s k : ℕ) (x : Span) → IsSpanAt takes s k x → s + x.scan ≤ c t → ReadsCount modulus c p puts s x (k - batch) (k + capacity)
  -- no word write of a cell overlaps a word read of it, from its start at position first to its end, or as long as it is open
  pub quiet :
      (s k i : ℕ) (x : Span) → IsSpanAt takes s k x → i < counts x.outcome → (first last : ℕ) → first ≤ last →
      s + x.scan ≤ c first → c last ≤ s + before_count x → CellOverlap capacity p puts ((k + i) % capacity) first last → ⊥
  -- word read i of a take after k items, once it has ended, has item number k + i of those put
  pub items :
      (t s k i : ℕ) (x : Span) (item : ℕ) → IsSpanAt takes s k x → slice_get (items_of x.outcome) i ≡ Some item → word_end word s x i ≤ c t →
      slice_get (begun_items puts (p t)) (k + i) ≡ Some item
  -- the items taken are a prefix of the items put
  pub prefix : (t : ℕ) → IsPrefix (ended_items takes (c t)) (begun_items puts (p t))
  -- a take that finds the ring empty: all puts that had ended before it began were taken by takes that had ended then, and
  -- no close had ended
  pub empty :
      (t s k : ℕ) (x : Span) → IsSpanAt takes s k x → x.outcome ≡ Asks false → s + before_count x ≤ c t →
      (first : ℕ) → IsPlace c s first → (counts_ended puts (p first) ≤ counts_ended takes (c first)) × (p first < total puts + 2)
  -- a put that finds the ring full: the puts before it, less the takes that had ended when it began, are at least the capacity
  pub full :
      (t s n : ℕ) (x : Span) → IsSpanAt puts s n x → counts x.outcome ≡ 0 → s + x.scan ≤ p t →
      (first : ℕ) → IsPlace p s first → counts_ended takes (c first) + capacity ≤ n
  -- a put whose items fill all the room that its scan left: the items up to and including its own, less the takes that had ended
  -- when it began, are at least the capacity
  pub fill :
      (t s n : ℕ) (x : Span) → IsSpanAt puts s n x → distance modulus (n % modulus) x.seen + counts x.outcome ≡ capacity → s + x.scan ≤ p t →
      (first : ℕ) → IsPlace p s first → counts_ended takes (c first) + capacity ≤ n + counts x.outcome
  -- a take that takes all the items that its scan showed: the puts that had ended when it began had stored no more than the items up to
  -- and including its own
  pub drain :
      (t s k : ℕ) (x : Span) → IsSpanAt takes s k x → 1 ≤ counts x.outcome → distance modulus x.seen (k % modulus) ≡ counts x.outcome → s + x.scan ≤ c t →
      (first : ℕ) → IsPlace c s first → counts_ended puts (p first) ≤ k + counts x.outcome
  -- once a take has returned Closed, at every later moment the close has begun, every item put has been taken, and no more
  -- come
  pub closed :
      (t u : ℕ) → IsToldAt c takes t → t ≤ u →
      (begun_items puts (p u) ≡ all_items puts) × (ended_items takes (c u) ≡ all_items puts) × (total puts < p u)

-- The law holds if two sides follow the rules of puts and takes and the registers follow theirs.
pub span_law :
    (modulus capacity batch more word : ℕ) (p c : ℕ → ℕ) (puts takes : List Span) → AllProper batch puts → AllProper more takes →
    Ring modulus capacity batch more word p c puts takes → SpanLaw modulus capacity batch more word p c puts takes
span_law modulus capacity batch more word p c puts takes proper_puts proper_takes ring =
    record {
      within = within modulus capacity batch more word p c puts takes ring proper_puts proper_takes;
      put_range = λ t s n x st l.
          (let u = left_at modulus capacity batch more word p c puts takes ring proper_puts proper_takes t s n x st l in
          record { number = u.number; write = u.write; tallies = u.tallies; value = u.value; low = omega (arith, u.low); high = u.high; not_older = u.since; not_newer = u.until });
      take_range = λ t s k x st l.
          (let u = shown_at modulus capacity batch more word p c puts takes ring proper_puts proper_takes t s k x st l in
          record { number = u.number; write = u.write; tallies = u.tallies; value = u.value; low = omega (arith, u.low); high = u.high; not_older = u.since; not_newer = u.until });
      quiet = quiet modulus capacity batch more word p c puts takes ring proper_puts proper_takes;
      items = taken_item modulus capacity batch more word p c puts takes ring proper_puts proper_takes;
      prefix = λ t.
          (drop (length (ended_items takes (c t))) (begun_items puts (p t)), sym (prefix modulus capacity batch more word p c puts takes ring proper_puts proper_takes t));
      empty = λ t s k x st o l first is.
          (let w = before-whole more x (proper_at more takes proper_takes s k x st) in (
            empty_fresh modulus capacity batch more word p c puts takes ring proper_puts proper_takes t s k x st (ap counts o) (omega (arith, w)) first is,
            empty_open modulus capacity batch more word p c puts takes ring proper_puts proper_takes t s k x st o l first is,
          ));
      full = full_fresh modulus capacity batch more word p c puts takes ring proper_puts proper_takes;
      fill = fill_fresh modulus capacity batch more word p c puts takes ring proper_puts proper_takes;
      drain = drain_fresh modulus capacity batch more word p c puts takes ring proper_puts proper_takes;
      closed = λ t u told l.
          (let z = told.two in
          closed modulus capacity batch more word p c puts takes ring proper_puts proper_takes u z.start z.number z.asked z.stopped z.asked_stands z.asked_is z.stopped_stands
          z.stopped_is (omega (arith, z.at_end, told.ended, clock_up c (clock_c p c ring.clocks) t u l)));
    }
