-- The properties of the operations of the producer's calls in a run.
use Rattle.std.proofs.Common.{◌≡◌, inl, inr, ℕ, suc, ◌+◌, ◌-◌, ◌<◌, ◌≤◌, Bool, true, false, nat_lt, nat_le, if◌then◌else◌, List, [], ◌∷◌, ◌++◌, length, refl, sym, ap, subst, arith, length-append}
use Rattle.std.proofs.lemmas.Bool.{ltb-true, ltb-false, leb-true, lt-ltb}
use Rattle.ring_core.proofs.Common.{Side, P, C, Shape, batch_of, capacity_of, take_batch_of, Count, first_count, batch_phrase, Takes, events_in, items_put, subhistory_has_place, nat_tests}
use Rattle.bits_core.specs.declared.events.Event.{Event}
use Rattle.bits_core.specs.Made.{subhistory, clock, place_of, IsPlaceOf}
use Rattle.register_core.specs.ScanState.{scan_phrase, row_read_by}
use Rattle.ring_core.specs.Puts.{Put, Stored, Full, Puts, stored_after, words_phrase, put_phrase, put_phrases}
use Rattle.ring_core.proofs.OverSpans.Spans.{Span, Passes, Stops, counts, before_count, whole, counts_begun, counts_ended, IsSpanAt}
use Rattle.ring_core.proofs.OverSpans.LookSpans.{look, put_looks, span_of, spans, put_spans, take_spans}
use Rattle.ring_core.proofs.OverSpans.RingOfSpans.{LawOfSpans}
use Rattle.ring_core.proofs.Readings.Cuts.{at_most_or_above}
use Rattle.ring_core.proofs.CountRow.{past_is}
use Rattle.ring_core.proofs.OverSpans.Timeline.{AllProper, begun_at, begun_up, begun_all, ended_up, in_all}
use Rattle.ring_core.proofs.OverSpans.CallSpans.{three, stands_at}
use Rattle.ring_core.proofs.CallCounts.{ended_counts}
use Rattle.ring_core.proofs.OwnEvents.{clock_rises}
use Rattle.ring_core.proofs.Linear.Turns.{In, Misses, IsMove, Op, PutFact, move_not_miss, move_not_end}
use Rattle.ring_core.proofs.Linear.OneOrder.{Numbered, items_by, IsClosedBy}
use Rattle.ring_core.proofs.Linear.PutTurns.{if_yes, if_no, in_if, in_call, in_one, begun_past_count, begun_before_count, begun_of_none, begun_counts, put_turn, enqueue_turns, put_long, until_count, put_turns, put_turns-none, put_some, before_put_ends, move_of, move_so, moves_numbered}

-- the place of the side's own event i is the last one with a clock of at most i
pub last_place : (s : Side) (h : List Event) (i place t : ℕ) → IsPlaceOf s h i place → clock s h t ≤ i → t ≤ place
last_place s h i place t q l = elim (at_most_or_above t place) [
  | inl m ↦ m
  | inr m ↦ absurd (omega (arith, clock_rises s h (suc place) t m, q.past, l))
]

-- a put has the events of its span
pub long_is : (shape : Shape) (c : Count) (seen : ℕ) (items : List ℕ) → put_long shape c (Stored seen items) ≡ whole (span_of P shape c (look seen (Passes items)))
long_is shape c seen items = omega (arith, three (scan_phrase (row_read_by P) seen) (words_phrase shape c.number items) (batch_phrase shape P c items))

until_is : (shape : Shape) (c : Count) (seen : ℕ) (items : List ℕ) → until_count shape c seen items ≡ before_count (span_of P shape c (look seen (Passes items)))
until_is shape c seen items = omega (arith, length-append (scan_phrase (row_read_by P) seen) (words_phrase shape c.number items))

-- ---- their numbers

numbered_call :
    (test : Bool) (last n : ℕ) (xs ys : List Op) → (test ≡ true → Numbered last n (xs ++ ys)) → (test ≡ false → Numbered last n ys) →
    Numbered last n ((if test then xs else []) ++ ys)
numbered_call test last n xs ys if_true if_false = grind arith

pub put_turns-numbered :
    (shape : Shape) (c : Count) (start : ℕ) (puts : List Put) (closes : Bool) (t last : ℕ) →
    c.number + counts_begun (spans P shape c (put_looks puts)) (t - start) ≡ last → Numbered last c.number (put_turns shape c start puts closes t)
put_turns-numbered shape c start [] closes t last e = grind (arith, if_yes, if_no)
put_turns-numbered shape c start (Stored seen items ∷ puts) closes t last e =
    let stop : ℕ = start + put_long shape c (Stored seen items) in
    let next : Count = stored_after shape c (Stored seen items) in
    let rest : List Op = put_turns shape next stop puts closes t in
    let y : Span = span_of P shape c (look seen (Passes items)) in
    let ys : List Span = spans P shape next (put_looks puts) in
    let long = long_is shape c seen items in
    let front = until_is shape c seen items in
    numbered_call (nat_lt (start + until_count shape c seen items) t) last c.number (enqueue_turns c.number start stop items) rest
    (λ f. moves_numbered 0 last c.number start stop items rest
    (put_turns-numbered shape next stop puts closes t last (grind (arith, ltb-true, begun_past_count y ys (t - start), past_is c.number items))))
    (λ f. grind (arith, ltb-false, put_turns-none shape next stop puts closes t, before_put_ends shape c seen items, begun_before_count y ys (t - start)))
put_turns-numbered shape c start (Full seen ∷ puts) closes t last e =
    let stop : ℕ = start + put_long shape c (Full seen) in
    let y : Span = span_of P shape c (look seen Stops) in
    let ys : List Span = spans P shape c (put_looks puts) in
    let later : t - start - whole y ≡ t - stop = omega arith in
    grind (arith, begun_of_none, if_yes, if_no, put_turns-numbered shape c stop puts closes t last (omega (arith, e, begun_of_none y ys (t - start) refl, ap (counts_begun ys) later)))

-- ---- their items

enqueues_items : (n start stop : ℕ) (items : List ℕ) (xs : List Op) → items_by (enqueue_turns n start stop items ++ xs) ≡ items ++ items_by xs
enqueues_items n start stop [] xs = refl
enqueues_items n start stop (item ∷ items) xs = ap (λ l. item ∷ l) (enqueues_items (suc n) start stop items xs)

pub put_turns-items :
    (shape : Shape) (c : Count) (start : ℕ) (puts : List Put) (closes : Bool) (t : ℕ) →
    items_by (put_turns shape c start puts closes t) ≡ items_put shape c puts (t - start)
put_turns-items shape c start [] closes t = grind arith
put_turns-items shape c start (Stored seen items ∷ puts) closes t =
    grind (arith, put_long, put_turns-items shape (stored_after shape c (Stored seen items)) (start + put_long shape c (Stored seen items)) puts closes t, enqueues_items, nat_tests)
put_turns-items shape c start (Full seen ∷ puts) closes t = search (arith, put_long, put_turns-items shape c (start + put_long shape c (Full seen)) puts closes t)

-- ---- the close

closed_enqueues : (b : Bool) (n start stop : ℕ) (items : List ℕ) (xs : List Op) → IsClosedBy b xs → IsClosedBy b (enqueue_turns n start stop items ++ xs)
closed_enqueues b n start stop [] xs r = r
closed_enqueues b n start stop (item ∷ items) xs r = closed_enqueues b (suc n) start stop items xs r

pub put_turns-closed :
    (shape : Shape) (c : Count) (start : ℕ) (puts : List Put) (t : ℕ) → start + events_in (put_phrases shape c puts) < t → IsClosedBy false (put_turns shape c start puts true t)
put_turns-closed shape c start [] t l = grind (arith, if_yes, lt-ltb)
put_turns-closed shape c start (Stored seen items ∷ puts) t l =
    let stop : ℕ = start + put_long shape c (Stored seen items) in
    let next : Count = stored_after shape c (Stored seen items) in
    let r = put_turns-closed shape next stop puts t (omega (arith, l, length-append (put_phrase shape c (Stored seen items)) (put_phrases shape next puts))) in
    grind (arith, if_yes, closed_enqueues, if_no)
put_turns-closed shape c start (Full seen ∷ puts) t l =
    let stop : ℕ = start + put_long shape c (Full seen) in
    grind (arith, length-append, if_yes, if_no, put_turns-closed shape c stop puts t (omega (arith, l, length-append (put_phrase shape c (Full seen)) (put_phrases shape c puts))))

-- ---- spans among others

-- these spans are among all of them, after this many events and items
abbrev pub Stand : List Span → List Span → (start k : ℕ) → Type 0
Stand all xs start k = (s n : ℕ) (x : Span) → IsSpanAt xs s n x → IsSpanAt all (start + s) (k + n) x

pub stand_on :
    (all : List Span) (y : Span) (ys : List Span) (start stop k k' : ℕ) → stop ≡ start + whole y → k' ≡ k + counts y.outcome → Stand all (y ∷ ys) start k → Stand all ys stop k'
stand_on all y ys start stop k k' e f stand s n x st =
    stands_at all (start + (whole y + s)) (stop + s) (k + (counts y.outcome + n)) (k' + n) x (omega (arith, e)) (omega (arith, f))
    (stand (whole y + s) (counts y.outcome + n) x (inr (s, n, refl, refl, st)))

pub stand_first : (all : List Span) (y : Span) (ys : List Span) (start k : ℕ) → Stand all (y ∷ ys) start k → IsSpanAt all start k y
stand_first all y ys start k stand = stands_at all (start + 0) start (k + 0) k y (omega arith) (omega arith) (stand 0 0 y (inl (refl, refl, refl)))

-- what has begun before a span that is there
pub begun_there : (most : ℕ) (all : List Span) → AllProper most all → (start k : ℕ) (y : Span) → IsSpanAt all start k y → (i : ℕ) → i ≤ start → counts_begun all i ≤ k
begun_there most all proper start k y st i l = omega (arith, begun_at most all proper start k y st 0, begun_up most all proper i (start + 0))

-- ---- what holds for each

module _ (shape : Shape) (h : List Event) (puts : Puts) (takes : Takes) (law : LawOfSpans shape h puts takes)
    (proper_puts : AllProper (batch_of shape) (put_spans shape puts)) (proper_takes : AllProper (take_batch_of shape) (take_spans shape takes)) where
  -- the events of all puts
  abbrev all_events : ℕ
  all_events = events_in (put_phrases shape first_count puts.puts)

  abbrev IsPut : Op → Type 0
  IsPut x =
      PutFact h (capacity_of shape) all_events (counts_begun (put_spans shape puts)) (counts_ended (put_spans shape puts)) (counts_ended (take_spans shape takes)) x ×
      (IsMove x.kind → x.number < counts_begun (put_spans shape puts) (length (subhistory P h)))

  pub puts_hold :
      (c : Count) (start : ℕ) (rest : List Put) (closes : Bool) → Stand (put_spans shape puts) (spans P shape c (put_looks rest)) start c.number →
      start + events_in (put_phrases shape c rest) ≡ all_events →
      c.number + in_all (spans P shape c (put_looks rest)) ≡ in_all (put_spans shape puts) →
      (x : Op) → In x (put_turns shape c start rest closes (length (subhistory P h))) → IsPut x
  puts_hold c start [] false stand e f x i = absurd i
  puts_hold c start [] true stand e f x i = grind (arith, in_if, begun_all)
  puts_hold c start (Stored seen items ∷ rest) closes stand e f x i =
      let stop : ℕ = start + put_long shape c (Stored seen items) in
      let next : Count = stored_after shape c (Stored seen items) in
      let t : ℕ = length (subhistory P h) in
      let y : Span = span_of P shape c (look seen (Passes items)) in
      let long = long_is shape c seen items in
      let front = until_is shape c seen items in
      let ys : List Span = spans P shape next (put_looks rest) in
      let st = stand_first (put_spans shape puts) y ys start c.number stand in
      elim (in_call x (nat_lt (start + until_count shape c seen items) t) (enqueue_turns c.number start stop items) (put_turns shape next stop rest closes t) i) [
        | inl (holds, k) ↦ (
            let r = move_so 0 c.number start stop items x (move_of 0 c.number start stop items x k) in
            let begun = begun_counts (put_spans shape puts) start c.number y t st (omega (arith, ltb-true (start + until_count shape c seen items) t holds, front)) in (
              record {
                some = omega (arith, r.starts, r.stops, before_put_ends shape c seen items);
                begins = omega (arith, r.starts, e);
                not_begun = λ m l. omega (arith, begun_there (batch_of shape) (put_spans shape puts) proper_puts start c.number y st m (omega (arith, l, r.starts)), r.number);
                ended = λ s m l. omega (arith, ended_counts (put_spans shape puts) start c.number y m st (omega (arith, l, r.stops, long)), r.number, r.inside);
                full = λ s. absurd (move_not_miss x.kind r.enqueues s);
                close = λ s. absurd (move_not_end x.kind r.enqueues s);
              },
              λ s. omega (arith, begun, r.number, r.inside),
            ))
        | inr j ↦ puts_hold next stop rest closes
            (stand_on (put_spans shape puts) y ys start stop c.number next.number (omega (arith, long)) (past_is c.number items) stand)
            (omega (arith, e, length-append (put_phrase shape c (Stored seen items)) (put_phrases shape next rest)))
            (omega (arith, f, past_is c.number items)) x j
      ]
  puts_hold c start (Full seen ∷ rest) closes stand e f x i =
      let stop : ℕ = start + put_long shape c (Full seen) in
      let t : ℕ = length (subhistory P h) in
      let y : Span = span_of P shape c (look seen Stops) in
      let some = put_some shape c seen in
      let ys : List Span = spans P shape c (put_looks rest) in
      let st = stand_first (put_spans shape puts) y ys start c.number stand in
      elim (in_call x (nat_le stop t) (put_turn c.number Misses start stop ∷ []) (put_turns shape c stop rest closes t) i) [
        | inl (holds, k) ↦ (
            let over : stop ≤ t = leb-true stop t holds in
            let first : ℕ = place_of P h start in
            let is_first : IsPlaceOf P h start first = subhistory_has_place P h start (omega (arith, over, some)) in
            let few = law.full start c.number y st refl (omega (arith, over)) first is_first in
            subst IsPut (sym (in_one x (put_turn c.number Misses start stop) k)) (
              record {
                some = omega (arith, some);
                begins = omega (arith, e);
                not_begun = begun_there (batch_of shape) (put_spans shape puts) proper_puts start c.number y st;
                ended = λ s. absurd s;
                full = λ s m l. omega (
                  arith,
                  few,
                  ended_up (take_batch_of shape) (take_spans shape takes) proper_takes (clock C h m) (clock C h first)
                      (clock_rises C h m first (last_place P h start first m is_first l)),
                );
                close = λ s. absurd s;
              },
              λ s. absurd s,
            ))
        | inr j ↦ puts_hold c stop rest closes
            (stand_on (put_spans shape puts) y ys start stop c.number c.number (omega arith) (omega arith) stand)
            (omega (arith, e, length-append (put_phrase shape c (Full seen)) (put_phrases shape c rest)))
            (omega (arith, f)) x j
      ]
