-- The law of the ring over calls, from the law over spans.
use Rattle.std.proofs.Common.{◌≡◌, ℕ, suc, ◌+◌, ◌-◌, ◌*◌, ◌%◌, ◌<◌, ◌≤◌, false, Some, List, [], ◌++◌, length, refl, sym, ap, subst, ◌∙◌, arith, length-append}
use Rattle.std.specs.Prelude.{slice_get}
use Rattle.ring_core.proofs.Common.{suc-mul, slice_get_within, Side, P, C, Shape, batch_of, capacity_of, modulus_of, take_batch_of, width_of, other, first_count, accesses_before_word, Take, Item}
use Rattle.ring_core.proofs.Common.{ItemAfterClose, Empty, Takes, taken_in, take_program, events_in, subhistory_has_place}
use Rattle.bits_core.specs.declared.events.Event.{Event}
use Rattle.register_core.specs.Phrases.{word_read, word_write}
use Rattle.bits_core.specs.Made.{Made, subhistory, clock, place_of, IsPlaceOf, IsPrefix}
use Rattle.register_core.specs.ScanState.{row_read_by}
use Rattle.ring_core.specs.Puts.{Put, Puts, Stored, Full, stored_in, close_phrase, put_program}
use Rattle.ring_core.proofs.OverSpans.Spans.{Span, items_of, counts, whole, counts_begun, counts_ended, IsSpanAt, sizes, tally}
use Rattle.ring_core.specs.Items as taken
use Rattle.ring_core.proofs.OverSpans.LookSpans.{put_looks, take_looks, put_spans, take_spans}
use Rattle.ring_core.specs.CallsAt.{IsTakeAt, scan_events, puts_begun, puts_ended, takes_begun, takes_ended}
use Rattle.ring_core.proofs.Cells.ItemPlaces.{ItemsAreQuiet}
use Rattle.ring_core.proofs.Cells.WordPlaces.{WordSpan, word_there, none-close as no_word}
use Rattle.ring_core.specs.RingLaw.{IsRun, IsInterval, IsWithin, WordsAreQuiet, TakenArePrefix, TakesMatchPuts, EmptyIsFresh, FullIsFresh, FillIsFresh, DrainIsFresh, ClosedIsTrue}
use Rattle.ring_core.specs.Ranges.{ReadsCount, PutsAreInRange, TakesAreInRange}
use Rattle.ring_core.proofs.OverSpans.RingOfSpans as by_span
use Rattle.ring_core.proofs.OverSpans.Timeline.{AllProper, begun_at, length-begun_items, length-ended_items}
use Rattle.ring_core.proofs.OverSpans.SpanItems.{within_items}
use Rattle.ring_core.proofs.OverSpans.Looks.{puts_as_looks, takes_as_looks, proper_puts, proper_takes, puts_items, takes_items, asks_word}
use Rattle.ring_core.proofs.Machines.Lengths.{length-scan}
use Rattle.ring_core.proofs.CloseEnds.{place_within, not_ended}
use Rattle.ring_core.proofs.OverSpans.CallSpans.{stands_at, put_items, put_has_span, item_has_span, empty_has_span, after_has_second}
use Rattle.ring_core.proofs.EndedCounts.{puts_ended_is, takes_begun_is}
use Rattle.ring_core.proofs.ScanPlaces.{ScanSpan, scan_there, none-close}
use Rattle.ring_core.proofs.CallCounts.{stored_ended_is, taken_begun_is, put_tally, take_tally}

interval_at : (s : Side) (h : List Event) (i i' e e' start stop : ℕ) → i ≡ i' → e ≡ e' → IsInterval s h i e start stop → IsInterval s h i' e' start stop
interval_at s h i i' e e' start stop p q r = subst (λ m. IsInterval s h m e' start stop) p (subst (λ m. IsInterval s h i m start stop) q r)

-- the take of an item by its span
pub record HasWord (shape : Shape) (calls : Takes) (n index item word stop : ℕ) : Type 0 where
  pub start : ℕ
  pub span : Span
  pub stands : IsSpanAt (take_spans shape calls) start n span
  pub listed : slice_get (items_of span.outcome) index ≡ Some item
  pub word_is : start + span.scan + 2 * (index * width_of shape) ≡ word
  pub stop_is : stop ≡ start + whole span

has_word :
    (shape : Shape) (calls : Takes) (x : Take) (n start stop index item word : ℕ) → IsTakeAt shape calls x n start stop → slice_get (taken.taken_of x) index ≡ Some item →
    word ≡ start + events_in (accesses_before_word x) + 2 * (index * width_of shape) → HasWord shape calls n index item word stop
has_word shape calls (Item seen items) n start stop index item word at e f = grind (arith, item_has_span shape calls seen items n start stop)
has_word shape calls (ItemAfterClose seen again items) n start stop index item word at e f = grind (arith, after_has_second shape calls seen again items n start stop at, length-append)
has_word shape calls (Empty seen) n start stop index item word at e f = absurd (cc)

module _ (shape : Shape) (h : List Event) (puts : Puts) (takes : Takes) (run : IsRun shape h puts takes)
    (law : by_span.LawOfSpans shape h puts takes) where
  -- ---- the counts

  puts_begun_are : (t : ℕ) → counts_begun (put_spans shape puts) t ≡ puts_begun shape puts t
  puts_begun_are t = sym (ap length (puts_items shape first_count puts.puts t) ∙ length-begun_items (put_spans shape puts) t)

  puts_ended_are : (t : ℕ) → counts_ended (put_spans shape puts) t ≡ puts_ended shape puts t
  puts_ended_are t = sym (puts_ended_is shape puts t ∙ stored_ended_is shape first_count puts.puts t)

  takes_begun_are : (t : ℕ) → counts_begun (take_spans shape takes) t ≡ takes_begun shape takes t
  takes_begun_are t = sym (takes_begun_is shape takes t ∙ taken_begun_is shape first_count takes.takes takes.end t)

  takes_ended_are : (t : ℕ) → counts_ended (take_spans shape takes) t ≡ takes_ended shape takes t
  takes_ended_are t = sym (ap length (takes_items shape first_count takes.takes takes.end t) ∙ length-ended_items (take_spans shape takes) t)

  put_number : (w : ℕ) → (first : List Put) × IsPrefix first puts.puts × (tally (sizes (put_spans shape puts)) w ≡ stored_in 0 first)
  put_number w = grind (arith, put_tally shape first_count puts.puts w)

  take_number : (w : ℕ) → (first : List Take) × IsPrefix first takes.takes × (tally (sizes (take_spans shape takes)) w ≡ taken_in 0 first)
  take_number w = grind (arith, take_tally shape first_count takes.takes takes.end w)

  pub within : IsWithin shape h puts takes
  within t =
      let (few, room) = law.within t in
      let p : ℕ = clock P h t in
      let c : ℕ = clock C h t in
      (omega (arith, few, puts_begun_are p, takes_begun_are c), omega (arith, room, puts_begun_are p, takes_begun_are c))

  -- ---- the ranges

  reads_count : {X : Type 0} →
      (s : Side) (start seen : ℕ) (x : Span) (calls : List X) (items : List X → ℕ) (ended_are begun_are : ℕ → ℕ) (writes : List Span) (least most : ℕ) →
      ((t : ℕ) → counts_ended writes t ≡ ended_are t) → ((t : ℕ) → counts_begun writes t ≡ begun_are t) →
      ((w : ℕ) → (first : List X) × IsPrefix first calls × (tally (sizes writes) w ≡ items first)) →
      x.seen ≡ seen → x.scan ≡ scan_events s seen → start + scan_events s seen ≤ length (subhistory s h) →
      by_span.ReadsCount (modulus_of shape) (clock s h) (clock (other s) h) writes start x least most →
      ReadsCount s shape h start seen calls items ended_are begun_are least most
  reads_count s start seen x calls items ended_are begun_are writes least most ends begins numbers seen_is scan_is l r =
      let some : 1 ≤ scan_events s seen = omega (arith, length-scan (row_read_by s) seen) in
      let e : ℕ = start + scan_events s seen - 1 in
      let first : ℕ = place_of s h start in
      let last : ℕ = place_of s h e in
      let at_first : IsPlaceOf s h start first = subhistory_has_place s h start (omega (arith, l, some)) in
      let at_last : IsPlaceOf s h e last = subhistory_has_place s h e (omega (arith, l, some)) in
      let (counted, are_first, tallies) = numbers r.write in
      grind (arith, items)

  -- the span of a scan comes after the items counted when it begins
  behind :
      (s : Side) (most : ℕ) (xs : List Span) → AllProper most xs → (begun : ℕ → ℕ) → ((t : ℕ) → counts_begun xs t ≡ begun t) →
      (start n seen : ℕ) (made : List Made) → start ≡ events_in made → n ≡ begun start → (z : ScanSpan s xs (2 * length made) seen) → IsSpanAt xs start n z.span
  behind s most xs proper begun begun_are start n seen made start_is n_is z =
      let there : 2 * length made + 0 ≡ start = omega (arith, start_is) in
      grind (arith, begun_at, stands_at)

  pub put_range : PutsAreInRange shape h puts takes
  put_range n start seen (before, after, program, start_is) l n_is =
      let z : ScanSpan P (put_spans shape puts) (2 * length before) seen =
      scan_there P shape first_count (put_looks puts.puts) (close_phrase puts.closes) (none-close P puts.closes) before after seen
      (sym (puts_as_looks shape first_count puts.puts puts.closes) ∙ program) in
      let stands = behind P (batch_of shape) (put_spans shape puts) (proper_puts shape puts run.puts_follow.are) (puts_begun shape puts) puts_begun_are start n seen before start_is n_is z in
      grind (arith, reads_count, takes_ended_are, takes_begun_are, take_number)

  pub take_range : TakesAreInRange shape h puts takes
  take_range k start seen (before, after, program, start_is) l k_is =
      let z : ScanSpan C (take_spans shape takes) (2 * length before) seen =
      scan_there C shape first_count (take_looks takes.takes takes.end) [] tt before after seen
      (sym (takes_as_looks shape first_count takes.takes takes.end) ∙ program) in
      let stands = behind C (take_batch_of shape) (take_spans shape takes) (proper_takes shape takes run.takes_follow.are) (takes_begun shape takes) takes_begun_are start k seen before start_is k_is z in
      grind (arith, reads_count, puts_ended_are, puts_begun_are, put_number)

  -- ---- words

  pub items_quiet : ItemsAreQuiet shape h puts takes
  items_quiet j item word past a k item' word' past' b cell start stop start' stop' on off overlap =
      let w : ℕ = width_of shape in
      let x = put_has_span shape puts a.call a.n a.start past a.is_call in
      let y = has_word shape takes b.call b.n b.start past' b.index item' word' b.is_call b.has b.word_is in
      let size : suc a.index * w ≡ a.index * w + w = suc-mul a.index w in
      let size' : suc b.index * w ≡ b.index * w + w = suc-mul b.index w in
      let digits : 0 < w = shape.has_digits in
      law.quiet a.start a.n a.index x.span x.stands (grind (arith, slice_get_within (put_items a.call) a.index item a.has, ap counts x.outcome_is))
      y.start b.n b.index y.span y.stands (within_items y.span.outcome b.index item' y.listed)
      (ap (λ i. i % capacity_of shape) (sym a.number) ∙ cell ∙ ap (λ i. i % capacity_of shape) b.number) start stop start' stop'
      (interval_at P h word _ _ _ start stop (omega (arith, a.word_is, x.scan_is)) (omega (arith, a.word_is, x.scan_is, size, digits)) on)
      (interval_at C h word' _ _ _ start' stop' (omega (arith, y.word_is)) (omega (arith, y.word_is, size', digits)) off)
      overlap

  pub prefix : TakenArePrefix shape h puts takes
  prefix = law.prefix

  -- the word of an item, its place among the accesses
  put_word : (before after : List Made) (cell item : ℕ) → put_program shape puts ≡ before ++ (word_write (width_of shape) cell item ++ after) →
      WordSpan P shape 0 (put_spans shape puts) before (word_write (width_of shape) cell item ++ after) cell
  put_word before after cell item program =
      word_there P shape first_count (put_looks puts.puts) (close_phrase puts.closes) (no_word P puts.closes) before after cell item
      (sym (puts_as_looks shape first_count puts.puts puts.closes) ∙ program)

  take_word : (before after : List Made) (cell item : ℕ) → take_program shape takes ≡ before ++ (word_read (width_of shape) cell item ++ after) →
      WordSpan C shape 0 (take_spans shape takes) before (word_read (width_of shape) cell item ++ after) cell
  take_word before after cell item program =
      word_there C shape first_count (take_looks takes.takes takes.end) [] tt before after cell item (sym (takes_as_looks shape first_count takes.takes takes.end) ∙ program)

  pub words : WordsAreQuiet shape h puts takes
  words cell item item' word word' (before, after, program, word_is) (before', after', program', word_is') start stop start' stop' on off overlap =
      let w : ℕ = width_of shape in
      let x = put_word before after cell item program in
      let y = take_word before' after' cell item' program' in
      let size : suc x.index * w ≡ x.index * w + w = suc-mul x.index w in
      let size' : suc y.index * w ≡ y.index * w + w = suc-mul y.index w in
      let digits : 0 < w = shape.has_digits in
      let y_number : 0 + y.number + y.index ≡ y.number + y.index = omega arith in
      let same : (x.number + x.index) % capacity_of shape ≡ (y.number + y.index) % capacity_of shape = grind arith in
      law.quiet x.start x.number x.index x.span x.stands (omega (arith, slice_get_within x.items x.index x.item x.listed, ap counts x.outcome_is))
      y.start y.number y.index y.span y.stands (omega (arith, slice_get_within y.items y.index y.item y.listed, ap counts y.outcome_is)) same start stop start' stop'
      (interval_at P h word _ _ _ start stop (omega (arith, word_is, x.place)) (omega (arith, word_is, x.place, size, digits)) on)
      (interval_at C h word' _ _ _ start' stop' (omega (arith, word_is', y.place)) (omega (arith, word_is', y.place, size', digits)) off)
      overlap

  pub items : TakesMatchPuts shape h puts takes
  items t k i item start stop x at has l =
      grind (arith, has_word shape takes x k start stop i item (start + events_in (accesses_before_word x) + 2 * (i * (width_of shape))) at has refl, suc-mul)

  -- ---- empty and full

  pub empty : EmptyIsFresh shape h puts takes
  empty seen k start stop at l =
      let z = empty_has_span shape takes seen k start stop at in
      let long = asks_word C shape (take_looks takes.takes takes.end) start k z.span false z.stands z.outcome_is in
      let first : ℕ = place_of C h start in
      let is_first : IsPlaceOf C h start first = subhistory_has_place C h start (omega (arith, l, z.stop_is, long)) in
      let (few, not_closed) = law.empty start k z.span z.stands z.outcome_is (omega (arith, l, z.stop_is)) first is_first in (
        first,
        is_first,
        omega (arith, few, puts_ended_are (clock P h first), takes_ended_are (clock C h first)),
        not_ended shape h puts run.puts_follow.events first not_closed (omega (arith, place_within C h start first is_first)),
      )

  pub full : FullIsFresh shape h puts takes
  full seen n start stop at l =
      let z = put_has_span shape puts (Full seen) n start stop at in
      let some : 1 ≤ scan_events P seen = omega (arith, length-scan (row_read_by P) seen) in
      let first : ℕ = place_of P h start in
      let is_first : IsPlaceOf P h start first = subhistory_has_place P h start (omega (arith, l, z.stop_is, z.scan_is, some)) in
      grind (arith, takes_ended_are)

  pub fill : FillIsFresh shape h puts takes
  fill seen stored n start stop at l fills =
      let z = put_has_span shape puts (Stored seen stored) n start stop at in
      let some : 1 ≤ scan_events P seen = omega (arith, length-scan (row_read_by P) seen) in
      let first : ℕ = place_of P h start in
      let is_first : IsPlaceOf P h start first = subhistory_has_place P h start (omega (arith, l, some)) in
      grind (arith, takes_ended_are)

  pub drain : DrainIsFresh shape h puts takes
  drain seen items k start stop at l drains some_items =
      let z = item_has_span shape takes seen items k start stop at in
      let some : 1 ≤ scan_events C seen = omega (arith, length-scan (row_read_by C) seen) in
      let first : ℕ = place_of C h start in
      let is_first : IsPlaceOf C h start first = subhistory_has_place C h start (omega (arith, l, some)) in
      let size : counts z.span.outcome ≡ length items = ap counts z.outcome_is in
      grind (arith, puts_ended_are)

  pub closed : ClosedIsTrue shape h puts takes
  closed = law.closed
