-- The law of the ring for lawful histories: the rules and the registers of a history make a ring of spans, and its law is
-- derived from that of the spans.
use Rattle.std.proofs.Common.{◌≡◌, ◌⊎◌, inl, inr, ℕ, suc, ◌+◌, ◌-◌, ◌*◌, ◌<◌, ◌≤◌, Bool, true, false, Some, List, [], ◌∷◌, ◌++◌, length, refl, sym, ap, subst, ◌∙◌, arith, append_assoc, append-nil, length-append}
use Rattle.std.specs.Prelude.{slice_get}
use Rattle.ring_core.proofs.Common.{suc-mul, Side, P, C, X, Shape, batch_of, capacity_of, modulus_of, take_batch_of, width_of, Count, first_count, Takes, Open, Closed, End, take_program, events_in}
use Rattle.ring_core.proofs.Common.{all_put, Tells, IsRun, TakenArePrefix, ClosedIsTrue, made_is_access, subhistory_has_one_place}
use Rattle.bits_core.specs.declared.events.Event.{Event}
use Rattle.bits_core.specs.Intervals as intervals
use Rattle.bits_core.specs.Made.{Made, Read, events_of, subhistory, clock, place_of, IsPlaceOf, IsPrefix}
use Rattle.register_core.specs.ScanState.{scan_phrase, row_read_by}
use Rattle.ring_core.specs.Puts.{Put, Puts, Stored, Full, stored_after, put_phrases, close_phrase}
use Rattle.ring_core.proofs.OverSpans.Spans.{Span, Asks, counts, before_count, all_items, total}
use Rattle.ring_core.proofs.OverSpans.Clocks.{IsPlace, AreCloseReads, Ring}
use Rattle.ring_core.proofs.OverSpans.Clocks as clocks
use Rattle.ring_core.proofs.OverSpans.LookSpans.{put_looks, take_looks, word_part, count_part, look_accesses, spans, put_spans, take_spans, LookAt}
use Rattle.ring_core.proofs.OverSpans.RingOfSpans.{LawOfSpans, PutsAreInRange, TakesAreInRange, CellsAreQuiet, TakesMatchPuts, EmptyIsFresh}
use Rattle.ring_core.proofs.Readings.Cuts.{at_most_or_above}
use Rattle.ring_core.proofs.OverSpans.SpanLaw.{SpanLaw, span_law, IsToldAt, LastTwo}
use Rattle.ring_core.proofs.HistoryClocks.{clocks_of}
use Rattle.ring_core.proofs.OwnEvents.{clock_within, clock_end, clock_rises, one_place}
use Rattle.ring_core.proofs.Machines.Following.{length-events}
use Rattle.ring_core.proofs.OverSpans.Looks.{puts_as_looks, takes_as_looks, proper_puts, proper_takes, total_is, look_from_first, words_are, asks_word, puts_items, takes_items, put_rules, take_rules, put_fits, take_fits, last_two}
use Rattle.ring_core.proofs.CountRow.{has_batch}
use Rattle.ring_core.proofs.Cells.CellPlaces.{doubled, multiple_up}
use Rattle.ring_core.proofs.OverSpans.RegularScans.{put_events, take_events, puts_regular, takes_regular}
use Rattle.ring_core.proofs.CloseReads.{read_of_close}
use Rattle.ring_core.proofs.Cells.SafeWords.{close_to_cell, words_are_safe}

-- ---- reads of the close bit

pub there : (xs : List Made) (y : Made) (ys : List Made) → slice_get (xs ++ y ∷ ys) (length xs) ≡ Some y
there [] y ys = refl
there (x ∷ xs) y ys = there xs y ys

-- what is read after a scan
abbrev AsksAt : List Made → ℕ → ℕ → Bool → Type 0
AsksAt program start scan answer = (front : List Made) × (back : List Made) × (program ≡ front ++ Read X answer ∷ back) × (start + scan ≡ 2 * length front)

asks_at :
    (shape : Shape) (program : List Made) (k start : ℕ) (x : Span) (answer : Bool) → LookAt C shape program k start x → x.outcome ≡ Asks answer →
    AsksAt program start x.scan answer
asks_at shape program k start x answer r asks =
    let outcome : r.look.outcome ≡ Asks answer = sym (ap (λ (y : Span). y.outcome) r.is_x) ∙ asks in
    let scan : List Made = scan_phrase (row_read_by C) r.look.seen in
    let word : word_part C shape k r.look.outcome ≡ Read X answer ∷ [] = ap (word_part C shape k) outcome in
    let rest : List Made = count_part C shape r.count r.look.outcome ++ r.after in (
      r.before ++ scan,
      rest,
      r.program_is ∙ ap (λ l. r.before ++ (scan ++ (l ++ rest))) word ∙ sym (append_assoc r.before scan (Read X answer ∷ rest)),
      omega (arith, r.start_is, ap (λ (y : Span). y.scan) r.is_x, length-append r.before scan),
    )

-- the two places of the producer's and the consumer's events
own_ends : (s : Side) (h : List Event) (i place : ℕ) → IsPlace (clock s h) i place → i < length (subhistory s h)
own_ends s h i place (here, past) = omega (arith, past, clock_within s h (suc place))

-- how many events the puts of a program have
pub put_total : (shape : Shape) (calls : Puts) → total (put_spans shape calls) ≡ 2 * length (put_phrases shape first_count calls.puts)
put_total shape calls =
    grind (arith, total_is P shape first_count (put_looks calls.puts), puts_as_looks shape first_count calls.puts false, append-nil (put_phrases shape first_count calls.puts))

take_total : (shape : Shape) (calls : Takes) → total (take_spans shape calls) ≡ 2 * length (take_program shape calls)
take_total shape calls = grind (arith, total_is, take_looks, takes_as_looks)

-- the items of all puts
pub all_is : (shape : Shape) (c : Count) (puts : List Put) → all_items (spans P shape c (put_looks puts)) ≡ all_put puts
all_is shape c [] = refl
all_is shape c (Stored seen items ∷ puts) = ap (λ l. items ++ l) (all_is shape (stored_after shape c (Stored seen items)) puts)
all_is shape c (Full seen ∷ puts) = all_is shape c puts

from_none : (n : ℕ) → 0 + n ≡ n
from_none n = omega arith

module _ (shape : Shape) (h : List Event) (puts : Puts) (takes : Takes) (run : IsRun shape h puts takes) where
  close_reads : AreCloseReads (clock P h) (clock C h) (put_spans shape puts) (take_spans shape takes)
  close_reads s k x answer st asks first last e is_first is_last ends =
      let program : List Made = look_accesses C shape first_count (take_looks takes.takes takes.end) [] in
      let follows : IsPrefix (subhistory C h) (events_of C program) = take_events shape h takes run.takes_follow in
      let (front, back, program_is, start_is) =
      asks_at shape program k s x answer (look_from_first C shape (take_looks takes.takes takes.end) [] s k x st) asks in
      let word : x.word ≡ 2 = asks_word C shape (take_looks takes.takes takes.end) s k x answer st asks in
      let e_is : e ≡ suc (2 * length front) = omega (arith, ends, word, start_is) in
      let last_own : suc (2 * length front) < length (subhistory C h) = omega (arith, own_ends C h e last is_last, e_is) in
      let x_at : slice_get program (length front) ≡ Some (Read X answer) = ap (λ l. slice_get l (length front)) program_is ∙ there front (Read X answer) back in
      let (stop, made_at) = made_is_access C h program follows (length front) (Read X answer) x_at (omega (arith, last_own)) in
      let (stop_is, answers) = made_at.ended last_own in
      let first_is : first ≡ place_of C h (2 * length front) =
      one_place C h (2 * length front) first (subst (λ i. IsPlace (clock C h) i first) start_is is_first) in
      let last_is : last ≡ stop =
      one_place C h (suc (2 * length front)) last (subst (λ i. IsPlace (clock C h) i last) e_is is_last) ∙ sym (subhistory_has_one_place C h (suc (2 * length front)) stop stop_is) in
      let read : intervals.IsRead h C X first last answer = grind arith in
      let order : first ≤ last = grind (arith, at_most_or_above) in
      let (on_zero, on_one) = read_of_close shape h run.lawful puts.puts puts.closes run.puts_follow.events first last answer read order in
      ((λ f. omega (arith, on_zero f, put_total shape puts)), (λ t. omega (arith, on_one t, put_total shape puts)))

  -- the two sides of the history make a ring
  pub ring : Ring (modulus_of shape) (capacity_of shape) (batch_of shape) (take_batch_of shape) (2 * width_of shape) (clock P h) (clock C h) (put_spans shape puts) (take_spans shape takes)
  ring = record {
    modulus_fits = omega (arith, shape.room_to_count);
    has_batch = has_batch shape;
    modulus_fits_takes = omega (arith, shape.room_to_take);
    has_more = shape.has_take_batch;
    clocks = clocks_of h;
    puts_rule = λ s n x st. subst (λ i. clocks.IsPutSpan (modulus_of shape) (capacity_of shape) i x) (from_none n) (put_rules shape first_count puts.puts run.puts_follow.are s n x st);
    takes_rule = λ s k x st. subst (λ i. clocks.IsTakeSpan (modulus_of shape) (capacity_of shape) i x) (from_none k) (take_rules shape first_count takes.takes takes.end run.takes_follow.are s k x st);
    puts_regular = puts_regular shape h run.lawful puts takes run.puts_follow run.takes_follow;
    takes_regular = takes_regular shape h run.lawful puts takes run.puts_follow run.takes_follow;
    words_safe = words_are_safe shape h run.lawful (put_looks puts.puts) (take_looks takes.takes takes.end) (close_phrase puts.closes)
        (close_to_cell puts.closes) (put_events shape h puts run.puts_follow) (take_events shape h takes run.takes_follow)
        (λ s n x st. (put_fits shape first_count puts.puts run.puts_follow.are s n x st).items)
        (λ s n x st. (take_fits shape first_count takes.takes takes.end run.takes_follow.are s n x st).items);
    close_reads = close_reads;
    has_word = omega (arith, shape.has_digits);
    takes_words = λ s k x st o. words_are C shape (take_looks takes.takes takes.end) s k x st o ∙ sym (doubled (counts x.outcome) (width_of shape));
    asks_words = λ s k x answer st e. omega (arith, asks_word C shape (take_looks takes.takes takes.end) s k x answer st e);
  }

  pub law : SpanLaw (modulus_of shape) (capacity_of shape) (batch_of shape) (take_batch_of shape) (2 * width_of shape) (clock P h) (clock C h) (put_spans shape puts) (take_spans shape takes)
  law = grind (arith, span_law, proper_puts, proper_takes, ring)

  -- ---- the law, in terms of calls

  is_place : (s : Side) (i place : ℕ) → IsPlaceOf s h i place → IsPlace (clock s h) i place
  is_place s i place q = (q.before, q.past)

  put_range : PutsAreInRange shape h puts takes
  put_range s n x st l = law.put_range (length h) s n x st (omega (arith, l, clock_end P h))

  take_range : TakesAreInRange shape h puts takes
  take_range s k x st l = law.take_range (length h) s k x st (omega (arith, l, clock_end C h))

  prefix : TakenArePrefix shape h puts takes
  prefix t =
      let (rest, e) = law.prefix t in
      (rest, ap (λ l. l ++ rest) (takes_items shape first_count takes.takes takes.end (clock C h t)) ∙ e ∙ sym (puts_items shape first_count puts.puts (clock P h t)))

  items : TakesMatchPuts shape h puts takes
  items t s k i x item st at l = grind (arith, doubled, puts_items, law)

  empty : EmptyIsFresh shape h puts takes
  empty s k x st o l first q =
      let (all, not_closed) = law.empty (length h) s k x st o (omega (arith, l, clock_end C h)) first (is_place C s first q) in
      (all, omega (arith, not_closed, put_total shape puts))

  closed : ClosedIsTrue shape h puts takes
  closed t u (tells, ended) l =
      let told : IsToldAt (clock C h) (take_spans shape takes) t = record { two = ends_told takes.end tells; ended = omega (arith, ended, take_total shape takes) } in
      let (put, taken, begun) = law.closed t u told l in
      let behind : events_in (put_phrases shape first_count puts.puts) < clock P h u = omega (arith, begun, put_total shape puts) in (
        puts_items shape first_count puts.puts (clock P h u) ∙ put ∙ all_is shape first_count puts.puts,
        takes_items shape first_count takes.takes takes.end (clock C h u) ∙ taken ∙ all_is shape first_count puts.puts,
        is_closed puts.closes run.puts_follow.events (omega (arith, behind, clock_within P h u)),
        behind,
      )
    where
      ends_told : (end : End) → Tells end → LastTwo (spans C shape first_count (take_looks takes.takes end))
      ends_told Open told = absurd told
      ends_told (Closed seen again) told = last_two shape first_count takes.takes seen again

      is_closed : (b : Bool) → IsPrefix (subhistory P h) (events_of P (put_phrases shape first_count puts.puts ++ close_phrase b)) → 2 * length (put_phrases shape first_count puts.puts) < length (subhistory P h) → b ≡ true
      is_closed true follows more = refl
      is_closed false (rest, e) more =
          absurd (omega (arith, more, length-append (subhistory P h) rest, ap length e, length-events P (put_phrases shape first_count puts.puts ++ []), length-append (put_phrases shape first_count puts.puts) []))

  -- the clock at the end of an interval
  at_end : (s : Side) (stop e : ℕ) → IsPlaceOf s h e stop ⊎ ((length (subhistory s h) ≤ e) × (stop ≡ length h)) → clock s h stop ≤ e
  at_end s stop e (inl q) = omega (arith, q.before)
  at_end s stop e (inr (few, past)) = omega (arith, few, clock_within s h stop)

  -- one of a side's own events comes before the end of an interval that ends with a later one
  by_end : (s : Side) (start stop i e : ℕ) → IsPlaceOf s h i start → IsPlaceOf s h e stop ⊎ ((length (subhistory s h) ≤ e) × (stop ≡ length h)) → stop < start → i ≤ e → ⊥
  by_end s start stop i e q (inl r) l m = absurd (omega (arith, clock_rises s h (suc stop) start l, r.past, q.before, m))
  by_end s start stop i e q (inr (few, past)) l m = grind (arith, clock_rises s h stop start (omega arith), clock_end s h, clock_within s h (suc start))

  -- an event of the producer is not one of the consumer, and not past the end
  apart : (start stop i e : ℕ) → IsPlaceOf P h i start → IsPlaceOf C h e stop ⊎ ((length (subhistory C h) ≤ e) × (stop ≡ length h)) → start ≡ stop → ⊥
  apart start stop i e q (inl r) same = grind (arith, clocks_of h)
  apart start stop i e q (inr (few, past)) same = grind (arith, clock_end, clock_within)

  quiet : CellsAreQuiet shape h puts takes
  quiet s n i x st stores s' k i' y st' takes_it cell start stop start' stop' a b (not_after, not_before) =
      let w : ℕ = width_of shape in
      let digits : 0 < w = shape.has_digits in
      let words : x.word ≡ 2 * (counts x.outcome * w) = words_are P shape (put_looks puts.puts) s n x st (omega (arith, stores)) in
      let within : suc i * w ≤ counts x.outcome * w = multiple_up (suc i) (counts x.outcome) w stores in
      let size : suc i * w ≡ i * w + w = suc-mul i w in
      let words' : y.word ≡ 2 * (counts y.outcome * w) = words_are C shape (take_looks takes.takes takes.end) s' k y st' (omega (arith, takes_it)) in
      let within' : suc i' * w ≤ counts y.outcome * w = multiple_up (suc i') (counts y.outcome) w takes_it in
      let size' : suc i' * w ≡ i' * w + w = suc-mul i' w in
      let ended : (place : ℕ) → place ≤ stop → clock P h place < s + before_count x =
      (λ place l. omega (arith, clock_rises P h place stop l, at_end P stop (s + x.scan + 2 * (suc i * w) - 1) a.ends, words, within, size, digits)) in
      let ended' : clock C h stop' ≤ s' + before_count y = omega (arith, at_end C stop' (s' + y.scan + 2 * (suc i' * w) - 1) b.ends, words', within', size', digits) in
      let order : start' ≤ stop' =
      elim (at_most_or_above start' stop') [
        | inl m ↦ m
        | inr m ↦ absurd (by_end C start' stop' (s' + y.scan + 2 * (i' * w)) (s' + y.scan + 2 * (suc i' * w) - 1) b.begins b.ends m (omega (arith, size', digits)))
      ] in
      let begun : start < stop' =
      elim (at_most_or_above stop' start) [
        | inr m ↦ m
        | inl m ↦ absurd (apart start stop' (s + x.scan + 2 * (i * w)) (s' + y.scan + 2 * (suc i' * w) - 1) a.begins b.ends (same_place start stop' m not_before))
      ] in
      law.quiet s' k i' y st' takes_it start' stop' order (omega (arith, b.begins.before)) ended'
      (record {
        write = record { start = s; number = n; put = x; index = i; stands = st; same_cell = cell };
        stored = stores;
        begun_before = omega (arith, clock_rises P h (suc start) stop' begun, a.begins.past);
        not_ended = ended start' (at_most start' stop not_after);
      })
    where
      at_most : (i j : ℕ) → (j < i → ⊥) → i ≤ j
      at_most i j f = grind arith

      same_place : (i j : ℕ) → j ≤ i → (j < i → ⊥) → i ≡ j
      same_place i j m f = grind arith

  pub law_of_spans : LawOfSpans shape h puts takes
  law_of_spans = record {
    within = law.within;
    put_range = put_range;
    take_range = take_range;
    quiet = quiet;
    prefix = prefix;
    items = items;
    empty = empty;
    closed = closed;
    full = λ s n x st o l first q. law.full (length h) s n x st o (omega (arith, l, clock_end P h)) first (is_place P s first q);
    fill = λ s n x st fills l first q. law.fill (length h) s n x st fills (omega (arith, l, clock_end P h)) first (is_place P s first q);
    drain = λ s k x st o drains l first q. law.drain (length h) s k x st o drains (omega (arith, l, clock_end C h)) first (is_place C s first q);
  }
