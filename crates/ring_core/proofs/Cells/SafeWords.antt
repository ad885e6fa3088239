-- What reads of a cell return: if no put's word write overlaps a take's word read, the item written last.
use Rattle.std.proofs.Common.{◌≡◌, ◌⊎◌, inl, inr, ℕ, zero, suc, ◌+◌, ◌-◌, ◌*◌, ◌%◌, ◌^◌, ◌<◌, ◌≤◌, Bool, Some, List, [], ◌∷◌, ◌++◌, length, take, refl, sym, ap, subst, ◌∙◌, arith}
use Rattle.std.specs.Prelude.{slice_get}
use Rattle.std.proofs.lemmas.Nat.{div-mul-add}
use Rattle.ring_core.proofs.Common.{slice_get_within, add-mul, suc-mul, P, C, Cell, Shape, capacity_of, width_of, end_of, IsLawful, first_count, close_phrase, access_is_made, made_is_access}
use Rattle.bits_core.specs.declared.events.Access.TheVariants as begins
use Rattle.bits_core.specs.declared.events.Event.{Event}
use Rattle.bits_core.specs.Intervals as intervals
use Rattle.bits_core.specs.Made.{Made, Write, events_of, subhistory, clock, place_of, IsPrefix}
use Rattle.register_core.specs.Word.{digit}
use Rattle.register_core.specs.WordLaw.{cell_writes, IsDigitWrite, IsWordWrite, IsWordRead, IsLastWord, NoWordEnded, WritesWords}
use Rattle.register_core.specs.MadeReads.{begin_place, end_place}
use Rattle.ring_core.proofs.OverSpans.Spans.{Span, counts, items_of, before_count, IsSpanAt}
use Rattle.ring_core.proofs.OverSpans.Clocks.{IsPlace, CellOverlap, IsLastWrite, word_end, AreSafe}
use Rattle.ring_core.proofs.OverSpans.LookSpans.{Look, look_accesses, spans}
use Rattle.ring_core.proofs.Readings.Cuts.{at_most_or_above}
use Rattle.ring_core.proofs.OverSpans.Gates.{Clock, clock_up, clock_p, clock_c}
use Rattle.ring_core.proofs.HistoryClocks.{clocks_of}
use Rattle.ring_core.proofs.OwnEvents.{clock_within, one_place}
use Rattle.ring_core.proofs.Cells.CellTimes.{to_cell, looks_to_cell, cell_items, ItemsFit, cell_items_fit}
use Rattle.ring_core.proofs.Cells.CellPlaces.{doubled, words_order, multiple_up, CellTime, cell_time, WordTime, word_time, DigitTime, digit_time, word_events, ReadTime, read_time}
use Rattle.ring_core.proofs.Machines.Batches.{fits_at}
use Rattle.ring_core.proofs.Cells.CellWrites.{writes_before, write_is_counted, write_is_counted_at_end}
use Rattle.ring_core.proofs.OverSpans.SpanItems.{within_items as counted_within}
use Rattle.register_core.proofs.LawLemmas.{reads_are_made_words, word_is_safe, writes_are_made_cells}

-- a close writes to no cell
pub close_to_cell : (closes : Bool) (j : ℕ) → to_cell j (close_phrase closes) ≡ []
close_to_cell closes j = grind arith

-- ---- lists and numbers

-- an element of a list, with what is before it and after it
split_at :
    {A : Type 0} → (xs : List A) (n : ℕ) (x : A) → slice_get xs n ≡ Some x →
    (before : List A) × (after : List A) × (xs ≡ before ++ x ∷ after) × (length before ≡ n)
split_at [] n x e = absurd (cc)
split_at (y ∷ xs) zero x e = ([], xs, (let same : y ≡ x = cc in cc), refl)
split_at (y ∷ xs) (suc n) x e =
    let (before, after, is, places) = split_at xs n x e in
    (y ∷ before, after, ap (λ l. y ∷ l) is, omega (arith, places))

-- and what is between the two
stands_there : {A : Type 0} → (before : List A) (x : A) (after : List A) → slice_get (before ++ x ∷ after) (length before) ≡ Some x
stands_there [] x after = refl
stands_there (y ∷ before) x after = stands_there before x after

-- a multiple plus less than the factor determines both
same_multiple : (a b w d : ℕ) → d < w → a * w + d ≡ b * w → (a ≡ b) × (d ≡ 0)
same_multiple a b w d l e = grind (arith, div-mul-add a w d l, div-mul-add b w 0 (omega (arith, l)))

-- a larger multiple is larger by one at least
larger_multiple : (a b w : ℕ) → a < b → a * w + w ≤ b * w
larger_multiple a b w l = grind (arith, add-mul, suc-mul)

module _ (shape : Shape) (h : List Event) (lawful : IsLawful shape h) (looks looks' : List Look) (behind : List Made)
    (none : (j : ℕ) → to_cell j behind ≡ [])
    (follows : IsPrefix (subhistory P h) (events_of P (look_accesses P shape first_count looks behind)))
    (follows' : IsPrefix (subhistory C h) (events_of C (look_accesses C shape first_count looks' [])))
    (fits : ItemsFit shape (spans P shape first_count looks)) (fits' : ItemsFit shape (spans C shape first_count looks')) where
  abbrev all : List Made
  all = look_accesses P shape first_count looks behind

  abbrev puts : List Span
  puts = spans P shape first_count looks

  abbrev takes : List Span
  takes = spans C shape first_count looks'

  abbrev width : ℕ
  width = width_of shape

  producer_clock : Clock (clock P h)
  producer_clock = clock_p (clock P h) (clock C h) (clocks_of h)

  consumer_clock : Clock (clock C h)
  consumer_clock = clock_c (clock P h) (clock C h) (clocks_of h)

  -- an event is of one side
  apart : (t i k : ℕ) → IsPlace (clock P h) i t → IsPlace (clock C h) k t → ⊥
  apart t i k a b = grind (arith, clocks_of h)

  -- the side's clock says which of its places comes first
  earlier : (t u : ℕ) → clock P h t < clock P h u → t < u
  earlier t u l = elim (at_most_or_above u t) [
    | inl m ↦ absurd (omega (arith, l, clock_up (clock P h) producer_clock u t m))
    | inr m ↦ m
  ]

  -- ---- digit writes

  -- how many writes to the cell began before a digit of a put's word
  digits_before :
      (j item place : ℕ) (r : WordTime shape looks behind first_count j item place) (d t : ℕ) → d < width → clock P h t ≡ place + 2 * d →
      length (cell_writes j (take t h)) ≡ r.nth * width + d
  digits_before j item place r d t l at =
      let g : DigitTime all j d item place (r.nth * width) = digit_time width all r.front r.back j item place (r.nth * width) d r.is r.place_is r.written l in
      let x : Made = Write (Cell j d) (digit d item) in
      let follows_parts : IsPrefix (subhistory P h) (events_of P (g.before ++ x ∷ g.after)) = subst (λ m. IsPrefix (subhistory P h) (events_of P m)) g.is follows in
      ap length (writes_before shape h lawful j g.before (x ∷ g.after) t follows_parts (omega (arith, at, g.place_is))) ∙ g.written

  -- the digit write of a put's word that has begun
  record Digit (j d place nth : ℕ) : Type 0 where
    start : ℕ
    stop : ℕ
    write : IsDigitWrite j h (nth * width + d) start stop
    starts : IsPlace (clock P h) (place + 2 * d) start
    ended : suc (place + 2 * d) < length (subhistory P h) → clock P h stop ≡ suc (place + 2 * d)

  digit_begun :
      (j item place : ℕ) (r : WordTime shape looks behind first_count j item place) (d : ℕ) → d < width → place + 2 * d < length (subhistory P h) → Digit j d place r.nth
  digit_begun j item place r d l begun =
      let g : DigitTime all j d item place (r.nth * width) = digit_time width all r.front r.back j item place (r.nth * width) d r.is r.place_is r.written l in
      let x : Made = Write (Cell j d) (digit d item) in
      let there : slice_get all (length g.before) ≡ Some x = ap (λ m. slice_get m (length g.before)) g.is ∙ stands_there g.before x g.after in
      let (stop, made_at) = made_is_access P h all follows (length g.before) x there (omega (arith, g.place_is, begun)) in
      let start : ℕ = place_of P h (2 * length g.before) in
      record {
        start = start;
        stop = stop;
        write = record {
          number = d;
          value = digit d item;
          write = made_at.access;
          behind = digits_before j item place r d start l (omega (arith, made_at.start_is.before, g.place_is));
        };
        starts = (omega (arith, made_at.start_is.before, g.place_is), omega (arith, made_at.start_is.past, g.place_is));
        ended = λ m. grind arith;
      }

  -- digit writes of the cell with one number end at one place
  same_stop : (j n a b a' b' : ℕ) → IsDigitWrite j h n a b → IsDigitWrite j h n a' b' → b ≡ b'
  same_stop j n a b a' b' w w' =
      let starts : a ≡ a' =
      elim (at_most_or_above a a') [
        | inl l ↦ elim (at_most_or_above a' a) [
          | inl m ↦ omega (arith, l, m)
          | inr m ↦ absurd (omega (arith, write_is_counted h j w.number w.value a b w.write a' m, w.behind, w'.behind))
        ]
        | inr l ↦ absurd (omega (arith, write_is_counted h j w'.number w'.value a' b' w'.write a l, w.behind, w'.behind))
      ] in
      w.write.ends ∙ ap (end_of P h) starts ∙ sym w'.write.ends

  -- ---- word writes

  -- the item of a word write, and its put
  record PutOf (j n start : ℕ) : Type 0 where
    at : ℕ
    number : ℕ
    index : ℕ
    put : Span
    item : ℕ
    stands : IsSpanAt puts at number put
    stored : slice_get (items_of put.outcome) index ≡ Some item
    has : index < counts put.outcome
    same_cell : (number + index) % capacity_of shape ≡ j
    word : WordTime shape looks behind first_count j item (at + put.scan + 2 * (index * width))
    nth_is : word.nth ≡ n
    starts : IsPlace (clock P h) (at + put.scan + 2 * (index * width)) start

  put_of : (j n start stop : ℕ) → IsWordWrite width j h n start stop → PutOf j n start
  put_of j n start stop w =
      let d : ℕ = w.first.number in
      let (m, x, x_at, x_is, place) = access_is_made P h all follows (begins.Write (Cell j d) w.first.value) start w.first_stop w.first.write in
      let (before, after, is, places) = split_at all m x x_at in
      let g : CellTime shape looks first_count j d (2 * length before) = cell_time shape first_count looks behind before x after j d w.first.value (none j) is x_is in
      let zero_more : 0 + (g.number + g.index) ≡ g.number + g.index = omega arith in
      let word_at : ℕ = g.start + g.put.scan + 2 * (g.index * width) in
      let r : WordTime shape looks behind first_count j g.item word_at = grind (arith, word_time) in
      let at : clock P h start ≡ word_at + 2 * d = omega (arith, place.start_is.before, places, g.place_is) in
      let digits : r.nth * width + d ≡ n * width = sym (digits_before j g.item word_at r d start g.within at) ∙ w.first.behind in
      let (numbers, first_digit) = same_multiple r.nth n width d g.within digits in
      record {
        at = g.start;
        number = g.number;
        index = g.index;
        put = g.put;
        item = g.item;
        stands = g.stands;
        stored = g.stored;
        has = counted_within g.put.outcome g.index g.item g.stored;
        same_cell = ap (λ k. k % capacity_of shape) (sym zero_more) ∙ g.same_cell;
        word = r;
        nth_is = numbers;
        starts = (omega (arith, at, first_digit), omega (arith, place.start_is.past, places, g.place_is, first_digit));
      }

  -- the words of a put are within its word accesses
  word_within :
      (at number index : ℕ) (put : Span) → IsSpanAt puts at number put → index < counts put.outcome → put.scan + 2 * (index * width) + 2 * width ≤ before_count put
  word_within at number index put st has = grind (arith, word_events, multiple_up, suc-mul)

  -- the word write of a put, ended before place t
  record EndedWord (j t place nth : ℕ) : Type 0 where
    start : ℕ
    stop : ℕ
    write : IsWordWrite width j h nth start stop
    last_start : ℕ
    last : IsDigitWrite j h (nth * width + (width - 1)) last_start stop
    before : stop < t
    starts : IsPlace (clock P h) place start

  ended_word :
      (j t item place : ℕ) (r : WordTime shape looks behind first_count j item place) → place + 2 * width ≤ clock P h t → EndedWord j t place r.nth
  ended_word j t item place r ended =
      let some : 0 < width = shape.has_digits in
      let all_come : place + 2 * width ≤ length (subhistory P h) = omega (arith, ended, clock_within P h t) in
      let first : Digit j 0 place r.nth = digit_begun j item place r 0 some (omega (arith, all_come, some)) in
      let last : Digit j (width - 1) place r.nth = digit_begun j item place r (width - 1) (omega (arith, some)) (omega (arith, all_come, some)) in
      let no_more : r.nth * width + 0 ≡ r.nth * width = omega arith in
      grind (arith, earlier, all_come)

  -- a word write whose last digit write has ended has ended
  ends_there :
      (j n start stop last_start stop' : ℕ) → IsWordWrite width j h n start stop →
      IsDigitWrite j h (n * width + (width - 1)) last_start stop' → stop ≡ stop'
  ends_there j n start stop last_start stop' w last = elim w.last [
    | inl (start'', last') ↦ same_stop j (n * width + (width - 1)) start'' stop last_start stop' last' last
    | inr (few, is) ↦ absurd (omega (arith, few, last.behind, write_is_counted_at_end h j last.number last.value last_start stop' last.write))
  ]

  -- a word write begins before it ends
  begins_before : (j n start stop t : ℕ) → IsWordWrite width j h n start stop → stop < t → t ≤ length h → start < t
  begins_before j n start stop t w l m = elim w.last [
    | inr (few, is) ↦ absurd (omega (arith, is, l, m))
    | inl (start', last) ↦ elim (at_most_or_above start start') [
      | inl o ↦ omega (arith, o, last.write.ends, l)
      | inr o ↦ absurd (omega (arith, write_is_counted h j last.number last.value start' stop last.write start o, last.behind, w.first.behind))
    ]
  ]

  -- ---- a take's word read that no put's word write overlaps

  module _ (s k i : ℕ) (x : Span) (item : ℕ) (stands : IsSpanAt takes s k x) (at : slice_get (items_of x.outcome) i ≡ Some item)
      (first last e : ℕ) (first_is : IsPlace (clock C h) (s + x.scan + i * (2 * width)) first) (last_is : IsPlace (clock C h) e last) (end_is : suc e ≡ word_end (2 * width) s x i)
      (quiet : CellOverlap (capacity_of shape) (clock P h) puts ((k + i) % capacity_of shape) first last → ⊥)
      (written : ℕ) (known : IsLastWrite (capacity_of shape) (clock P h) puts ((k + i) % capacity_of shape) first written) where
    abbrev cell : ℕ
    cell = (k + i) % capacity_of shape

    -- the place where the read begins
    abbrev from : ℕ
    from = s + x.scan + i * (2 * width)

    from_is : from ≡ s + x.scan + 2 * (i * width)
    from_is = omega (arith, doubled i width)

    end_from : suc e ≡ from + 2 * width
    end_from = omega (arith, end_is, suc-mul i (2 * width))

    abbrev items : List ℕ
    items = cell_items shape cell 0 looks

    known_has : known.index < counts known.put.outcome
    known_has = counted_within known.put.outcome known.index written known.stored

    abbrev known_at : ℕ
    known_at = known.start + known.put.scan + 2 * (known.index * width)

    -- the item whose word write ended last
    known_word : WordTime shape looks behind first_count cell written known_at
    known_word =
        let zero_more : 0 + (known.number + known.index) ≡ known.number + known.index = omega arith in
        word_time shape first_count looks behind cell known.start known.number known.index known.put written known.stands known.stored
        (ap (λ n. n % capacity_of shape) zero_more ∙ known.same_cell)

    known_ended : EndedWord cell first known_at known_word.nth
    known_ended =
        ended_word cell first written known_at known_word
        (omega (arith, known.had_ended, word_within known.start known.number known.index known.put known.stands known_has))

    -- a put that began a word of the cell before the read ended had ended its words before the read
    had_ended : (n start : ℕ) (g : PutOf cell n start) → start < last → g.at + before_count g.put ≤ clock P h first
    had_ended n start g l = elim (at_most_or_above (g.at + before_count g.put) (clock P h first)) [
      | inl m ↦ m
      | inr m ↦ absurd (quiet (record {
        write = record { start = g.at; number = g.number; put = g.put; index = g.index; stands = g.stands; same_cell = g.same_cell };
        stored = g.has;
        begun_before = omega (arith, g.starts, clock_up (clock P h) producer_clock (suc start) last l);
        not_ended = m;
      }))
    ]

    -- so no word write of the cell overlaps the read
    no_overlap : (n start stop : ℕ) → IsWordWrite width cell h n start stop → ¬ intervals.Overlap first last start stop
    no_overlap n start stop w (not_after, not_before) =
        let g : PutOf cell n start = put_of cell n start stop w in
        let word_at : ℕ = g.at + g.put.scan + 2 * (g.index * width) in
        let begun : start < last =
        elim (at_most_or_above last start) [
          | inr m ↦ m
          | inl m ↦ absurd (apart last word_at e (subst (λ t. IsPlace (clock P h) word_at t) (same_place m not_after) g.starts) last_is)
        ] in
        let ended : g.at + before_count g.put ≤ clock P h first = had_ended n start g begun in
        let r : EndedWord cell first word_at g.word.nth =
        ended_word cell first g.item word_at g.word (omega (arith, ended, word_within g.at g.number g.index g.put g.stands g.has)) in
        let digits : IsDigitWrite cell h (n * width + (width - 1)) r.last_start r.stop = grind arith in
        not_before (omega (arith, r.before, ends_there cell n start stop r.last_start r.stop w digits))
      where
        same_place : last ≤ start → (last < start → ⊥) → start ≡ last
        same_place m n = grind arith

    some_digit : 0 < width
    some_digit = shape.has_digits

    -- the accesses of the read
    read_accesses : ReadTime shape (look_accesses C shape first_count looks' []) cell item from
    read_accesses =
        let zero_more : 0 + k + i ≡ k + i = omega arith in
        grind (arith, from_is, read_time)

    abbrev begins_at : ℕ → ℕ
    begins_at = begin_place C h (length read_accesses.front)

    abbrev ends_at : ℕ → ℕ
    ends_at = end_place C h (length read_accesses.front)

    all_come : suc e ≤ length (subhistory C h)
    all_come = omega (arith, clock_within C h (suc last), last_is)

    first_place : begins_at 0 ≡ first
    first_place = grind (arith, all_come, end_from, some_digit, read_accesses, one_place)

    last_place : ends_at (width - 1) ≡ last
    last_place = grind (arith, read_accesses, end_from, some_digit, one_place)

    item_fits : item < 2 ^ width
    item_fits = (fits_at shape (items_of x.outcome) i item (fits' s k x stands) at).0

    word_is_read : IsWordRead width cell h begins_at ends_at item
    word_is_read =
        reads_are_made_words h (look_accesses C shape first_count looks' []) follows' read_accesses.front read_accesses.back width cell item
        item_fits read_accesses.is (omega (arith, all_come, end_from, read_accesses.place_is))

    in_order : first < last
    in_order = elim (at_most_or_above last first) [
      | inr m ↦ m
      | inl m ↦ absurd (omega (arith, clock_up (clock C h) consumer_clock last first m, first_is, last_is, end_from, some_digit))
    ]

    within : first < length h
    within = let starts = (word_is_read.each 0 some_digit).access in omega (arith, slice_get_within h (begins_at 0) starts.event starts.at_start, first_place)

    -- words of the cell are numbered in the order of their puts
    later_put : (n start stop : ℕ) → IsWordWrite width cell h n start stop → (g : PutOf cell n start) → known_word.nth < n → known.number + known.index < g.number + g.index
    later_put n start stop w g l = elim (at_most_or_above (g.number + g.index) (known.number + known.index)) [
      | inr m ↦ m
      | inl m ↦ absurd (
          let more : known_word.nth * width + width ≤ n * width = larger_multiple known_word.nth n width l in
          let behind_known : length (cell_writes cell (take known_ended.start h)) ≡ known_word.nth * width = known_ended.write.first.behind in
          let not_more : length (cell_writes cell (take start h)) ≤ length (cell_writes cell (take known_ended.start h)) =
          elim (at_most_or_above known_ended.start start) [
            | inr o ↦ omega (arith, write_is_counted h cell w.first.number w.first.value start w.first_stop w.first.write known_ended.start o)
            | inl o ↦ same_count (omega (arith, o, not_later m))
          ] in
          omega (arith, more, behind_known, not_more, w.first.behind, some_digit))
    ]
      where
        not_later : g.number + g.index ≤ known.number + known.index → start ≤ known_ended.start
        not_later m = elim (at_most_or_above start known_ended.start) [
          | inl o ↦ o
          | inr o ↦ absurd (omega (
            arith,
            words_order width puts g.at g.number g.index known.start known.number known.index g.put known.put g.stands known.stands g.has known_has
                (word_events P shape first_count looks g.at g.number g.put g.stands (omega (arith, g.has))) m,
            clock_up (clock P h) producer_clock (suc known_ended.start) start o,
            g.starts,
            known_ended.starts,
          ))
        ]

        same_count : start ≡ known_ended.start → length (cell_writes cell (take start h)) ≤ length (cell_writes cell (take known_ended.start h))
        same_count same = omega (arith, ap (λ t. length (cell_writes cell (take t h))) same)

    by_last : IsLastWord width cell h items (begins_at 0) item → item ≡ written
    by_last w =
        let g : PutOf cell w.number w.start = put_of cell w.number w.start w.stop w.write in
        let at_most : known_word.nth ≤ w.number =
        w.last known_word.nth known_ended.start known_ended.stop known_ended.write (omega (arith, known_ended.before, first_place)) in
        let begun : w.start < first = begins_before cell w.number w.start w.stop first w.write (omega (arith, w.ended, first_place)) (omega (arith, within)) in
        elim (at_most_or_above w.number known_word.nth) [
          | inl m ↦ grind (arith, known_word)
          | inr m ↦ absurd (
              known.no_later g.at g.number g.index g.put g.stands g.has g.same_cell (later_put w.number w.start w.stop w.write g m)
              (omega (arith, had_ended w.number w.start g (omega (arith, begun, in_order)))))
        ]

    cell_is_written : WritesWords width cell h items
    cell_is_written =
        subst (λ l. IsPrefix (cell_writes cell h) l) (looks_to_cell shape cell first_count looks behind (none cell))
        (writes_are_made_cells shape h lawful all follows cell)

    -- it returns the item written last
    read_gives : item ≡ written
    read_gives =
        let apart_from_all : (n start stop : ℕ) → IsWordWrite width cell h n start stop → ¬ intervals.Overlap (begins_at 0) (ends_at (width - 1)) start stop =
        λ n start stop w o. no_overlap n start stop w ((λ l. o.0 (omega (arith, l, last_place))), (λ l. o.1 (omega (arith, l, first_place)))) in
        let either : IsLastWord width cell h items (begins_at 0) item ⊎ (NoWordEnded width cell h (begins_at 0) × (item ≡ 0)) =
        word_is_safe shape h lawful width cell some_digit items (cell_items_fit shape cell first_count looks fits) cell_is_written
        begins_at ends_at item word_is_read apart_from_all in
        elim either [
          | inl w ↦ by_last w
          | inr (never, zero_is) ↦ absurd (
              never known_word.nth known_ended.start known_ended.stop known_ended.write (omega (arith, known_ended.before, first_place)))
        ]

  -- the law of the safe word, for the spans of the two sides
  pub words_are_safe : AreSafe (capacity_of shape) (2 * width) (clock P h) (clock C h) (spans P shape first_count looks) (spans C shape first_count looks')
  words_are_safe s k i x item stands at first last e first_is last_is end_is quiet written known =
      read_gives s k i x item stands at first last e first_is last_is end_is quiet written known
