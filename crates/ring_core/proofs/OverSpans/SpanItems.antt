-- What follows from the counts: no overlapping access to a cell, the items in order, what a full and an empty ring imply, and the close.
use Rattle.std.specs.Prelude.{slice_get, Some}
use Rattle.ring_core.proofs.Common.{suc-mul, mul-le-mul_right, slice_get_within, get_or_from_slice_get, distance}
use Rattle.std.proofs.Common.{◌≡◌, inl, inr, ℕ, suc, ◌+◌, ◌-◌, ◌*◌, ◌<◌, ◌≤◌, ◌%◌, true, false, List, ◌++◌, length, get_or, drop, append-nil, drop_of_length-le, refl, sym, ap, ◌∙◌, add-zero, arith}
use Rattle.std.proofs.lemmas.List.Prefix.{front_from_reads}
use Rattle.ring_core.proofs.OverSpans.Spans.{Span, Outcome, Asks, counts, items_of, before_count, whole, counts_begun, counts_ended, begun_items, ended_items, all_items, total, IsSpanAt}
use Rattle.ring_core.proofs.OverSpans.Clocks.{IsPlace, CellOverlap, word_end, Ring}
use Rattle.ring_core.proofs.Readings.Cuts.{at_most_or_above}
use Rattle.ring_core.proofs.OverSpans.Timeline.{AllProper, before-whole, before-count, ended_begun, begun_at, ended_at, begun_up, ended_up, begun_all, ended_all, Found, begun_find, ended_find, length-begun_items, length-ended_items, all_begun}
use Rattle.ring_core.proofs.OverSpans.Distances.{apart, distance_of}
use Rattle.ring_core.proofs.OverSpans.Gates.{clock_up, place_of, clock_p, clock_c, proper_at, shows_none, leaves_none, within, shown_at, left_at, behind as has_begun, ahead as has_room}

-- an item of an outcome is one of those that it counts
pub within_items : (o : Outcome) (i item : ℕ) → slice_get (items_of o) i ≡ Some item → i < counts o
within_items o i item e = grind (arith, slice_get_within (items_of o) i item e)

-- the word accesses up to one that is among them are no longer than all
up_to : (i m word : ℕ) → i < m → suc i * word ≤ m * word
up_to i m word l = mul-le-mul_right word l

module _ (modulus capacity batch more word : ℕ) (p c : ℕ → ℕ) (puts takes : List Span) (ring : Ring modulus capacity batch more word p c puts takes)
    (proper_puts : AllProper batch puts) (proper_takes : AllProper more takes) where
  up_p : (t u : ℕ) → t ≤ u → p t ≤ p u
  up_p = clock_up p (clock_p p c ring.clocks)

  up_c : (t u : ℕ) → t ≤ u → c t ≤ c u
  up_c = clock_up c (clock_c p c ring.clocks)

  -- the gates of a take and of a put, from the end of its scan on
  -- again, for the sides of this module
  behind : (t s k : ℕ) (x : Span) → IsSpanAt takes s k x → 1 ≤ counts x.outcome → s + x.scan ≤ c t → k + counts x.outcome ≤ counts_begun puts (p t)
  behind = has_begun modulus capacity batch more word p c puts takes ring proper_puts proper_takes

  -- again, for the sides of this module
  ahead : (t s n : ℕ) (x : Span) → IsSpanAt puts s n x → 1 ≤ counts x.outcome → s + x.scan ≤ p t → n + counts x.outcome ≤ counts_begun takes (c t) + capacity
  ahead = has_room modulus capacity batch more word p c puts takes ring proper_puts proper_takes

  -- the count of a side from the start of a scan to the start of the count write
  at_put : (s n j : ℕ) (x : Span) → IsSpanAt puts s n x → s ≤ j → j ≤ s + before_count x → counts_begun puts j ≡ n
  at_put s n j x st l m =
      let e : s + (j - s) ≡ j = omega arith in
      rw e at (begun_at batch puts proper_puts s n x st (j - s) (omega arith))

  at_take : (s k j : ℕ) (x : Span) → IsSpanAt takes s k x → s ≤ j → j ≤ s + before_count x → counts_begun takes j ≡ k
  at_take s k j x st l m =
      let e : s + (j - s) ≡ j = omega arith in
      rw e at (begun_at more takes proper_takes s k x st (j - s) (omega arith))

  -- no word write of the cell overlaps the word read, which begins at position first
  pub quiet :
      (s k i : ℕ) (x : Span) → IsSpanAt takes s k x → i < counts x.outcome → (first last : ℕ) → first ≤ last →
      s + x.scan ≤ c first → c last ≤ s + before_count x → CellOverlap capacity p puts ((k + i) % capacity) first last → ⊥
  quiet s k i x st has first last l from to v =
      let o : 1 ≤ counts x.outcome = omega (arith, has) in
      elim (at_most_or_above (p first) (v.start + v.put.scan)) [
        | inr m ↦ (
            let w = before-whole batch v.put (proper_at batch puts proper_puts v.start v.number v.put v.stands) in
            let n = at_put v.start v.number (p first) v.put v.stands (omega arith) (omega (arith, v.not_ended)) in
            let kk = at_take s k (c first) x st (omega arith) (omega (arith, up_c first last l)) in
            let room = ahead first v.start v.number v.put v.stands (omega (arith, v.stored)) (omega arith) in
            apart capacity (k + i) (v.number + v.index) (omega (arith, behind first s k x st o from, n, has))
            (omega (arith, room, kk, v.stored)) v.same_cell)
        | inl m ↦ (
            let r = place_of p (clock_p p c ring.clocks) (v.start + v.put.scan) last v.begun_before in
            let t = r.place in
            let w = before-whole batch v.put (proper_at batch puts proper_puts v.start v.number v.put v.stands) in
            let after : first ≤ t = elim (at_most_or_above first t) [ inl g ↦ g | inr g ↦ absurd (omega (arith, up_p (suc t) first g, r.is, m)) ] in
            let n = at_put v.start v.number (p t) v.put v.stands (omega (arith, r.is)) (omega (arith, r.is, w)) in
            let from' : s + x.scan ≤ c t = omega (arith, up_c first t after) in
            let kk = at_take s k (c t) x st (omega arith) (omega (arith, up_c t last (omega (arith, r.before)))) in
            let room = ahead t v.start v.number v.put v.stands (omega (arith, v.stored)) (omega (arith, r.is)) in
            apart capacity (k + i) (v.number + v.index) (omega (arith, behind t s k x st o from', n, has))
            (omega (arith, room, kk, v.stored)) v.same_cell)
      ]

  -- word read i of a take after k items, which has ended by moment t, has item number k + i of those put
  same_item :
      (t s k i : ℕ) (x : Span) (item : ℕ) → IsSpanAt takes s k x → slice_get (items_of x.outcome) i ≡ Some item → word_end word s x i ≤ c t →
      (g : Found puts (begun_items puts (p t)) (k + i)) → item ≡ g.item
  same_item t s k i x item st at l g =
      let has : i < counts x.outcome = within_items x.outcome i item at in
      let o : 1 ≤ counts x.outcome = omega (arith, has) in
      let w = before-whole more x (proper_at more takes proper_takes s k x st) in
      let some : 1 ≤ word = ring.has_word in
      let size : suc i * word ≡ i * word + word = suc-mul i word in
      let whole_words : suc i * word ≤ x.word = omega (arith, up_to i (counts x.outcome) word has, ring.takes_words s k x st o) in
      let first = place_of c (clock_c p c ring.clocks) (s + x.scan + i * word) t (omega (arith, l, size, some)) in
      let last = place_of c (clock_c p c ring.clocks) (word_end word s x i - 1) t (omega (arith, l, size, some)) in
      let order : first.place ≤ last.place = elim (at_most_or_above first.place last.place) [
        | inl m ↦ m
        | inr m ↦ absurd (omega (arith, up_c (suc last.place) first.place m, first.is, last.is, size, some))
      ] in
      let here : counts_begun takes (c first.place) ≡ k = at_take s k (c first.place) x st (omega (arith, first.is)) (omega (arith, first.is, w, whole_words, size)) in
      let gate = behind first.place s k x st o (omega (arith, first.is)) in
      ring.words_safe s k i x item st at first.place last.place (word_end word s x i - 1) first.is last.is (omega (arith, size, some))
      (λ v. quiet s k i x st has first.place last.place order (omega (arith, first.is)) (omega (arith, last.is, w, whole_words, size, some)) v)
      g.item
      (record {
        write = record {
          start = g.start;
          number = g.number;
          put = g.span;
          index = g.index;
          stands = g.stands;
          same_cell = ap (λ (n : ℕ). n % capacity) (sym g.is_k);
        };
        stored = g.stored;
        had_ended = elim (at_most_or_above (g.start + before_count g.span) (p first.place)) [
          | inl m ↦ m
          | inr m ↦ (
              let bound = begun_up batch puts proper_puts (p first.place) (g.start + before_count g.span) (omega arith) in
              let at_end = begun_at batch puts proper_puts g.start g.number g.span g.stands (before_count g.span) (omega arith) in
              absurd (omega (arith, bound, at_end, g.is_k, gate, has)))
        ];
        no_later = λ s' n' j y sy had cell later begun_y. grind (arith, ahead, apart);
      })

  -- so that item is among those put
  pub taken_item :
      (t s k i : ℕ) (x : Span) (item : ℕ) → IsSpanAt takes s k x → slice_get (items_of x.outcome) i ≡ Some item → word_end word s x i ≤ c t →
      slice_get (begun_items puts (p t)) (k + i) ≡ Some item
  taken_item t s k i x item st at l =
      let has : i < counts x.outcome = within_items x.outcome i item at in
      let size : suc i * word ≡ i * word + word = suc-mul i word in
      let there : k + i < counts_begun puts (p t) = omega (arith, behind t s k x st (omega (arith, has)) (omega (arith, l, size)), has) in
      let g = begun_find batch puts proper_puts (p t) (k + i) there in
      g.listed ∙ ap Some (sym (same_item t s k i x item st at l g))

  -- at most as many items are taken as are put
  fewer : (t : ℕ) → counts_ended takes (c t) ≤ counts_begun puts (p t)
  fewer t = omega (arith, within modulus capacity batch more word p c puts takes ring proper_puts proper_takes t, ended_begun more takes proper_takes (c t))

  -- and each has the item of the same number
  each_item : (t k : ℕ) → k < counts_ended takes (c t) → get_or (begun_items puts (p t)) k 0 ≡ get_or (ended_items takes (c t)) k 0
  each_item t k l =
      let f = ended_find more takes proper_takes (c t) k l in
      let proper = proper_at more takes proper_takes f.start f.number f.span f.stands in
      let w = before-whole more f.span proper in
      let o : 1 ≤ counts f.span.outcome = omega (arith, f.within) in
      let whole_words : suc f.index * word ≤ f.span.word =
      omega (arith, up_to f.index (counts f.span.outcome) word f.within, ring.takes_words f.start f.number f.span f.stands o) in
      let over : f.start + whole f.span ≤ c t = elim (at_most_or_above (f.start + whole f.span) (c t)) [
        | inl m ↦ m
        | inr m ↦ (
            let longer = before-count more f.span proper o in
            let bound = ended_up more takes proper_takes (c t) (f.start + (whole f.span - 1)) (omega (arith, longer)) in
            let at_end = ended_at more takes proper_takes f.start f.number f.span f.stands (whole f.span - 1) (omega (arith, longer)) in
            absurd (omega (arith, l, bound, at_end, f.is_k)))
      ] in
      let there = taken_item t f.start f.number f.index f.span f.item f.stands f.stored (omega (arith, over, w, whole_words)) in
      get_or_from_slice_get (begun_items puts (p t)) k f.item 0 (ap (slice_get (begun_items puts (p t))) f.is_k ∙ there) ∙
      sym (get_or_from_slice_get (ended_items takes (c t)) k f.item 0 f.listed)

  -- the items taken are a prefix of the items put
  pub prefix : (t : ℕ) → begun_items puts (p t) ≡ ended_items takes (c t) ++ drop (length (ended_items takes (c t))) (begun_items puts (p t))
  prefix t =
      let a = length-begun_items puts (p t) in
      let z = length-ended_items takes (c t) in
      front_from_reads 0 (begun_items puts (p t)) (ended_items takes (c t)) (omega (arith, fewer t)) (λ k l. each_item t k (omega arith))

  -- a take that takes nothing: each put that had ended before it began was taken by a take that had ended before it began
  pub empty_fresh :
      (t s k : ℕ) (x : Span) → IsSpanAt takes s k x → counts x.outcome ≡ 0 → s + x.scan ≤ c t → (first : ℕ) → IsPlace c s first →
      counts_ended puts (p first) ≤ counts_ended takes (c first)
  empty_fresh t s k x st o l first is =
      let r = shown_at modulus capacity batch more word p c puts takes ring proper_puts proper_takes t s k x st l in
      let w = before-whole more x (proper_at more takes proper_takes s k x st) in
      let e : counts_ended takes (s + 0) ≡ k = ended_at more takes proper_takes s k x st 0 (omega (arith, w)) in
      let e' : counts_ended takes (c first) ≡ k = rw is.0 (rw add-zero at e) in
      omega (arith, r.since first is, shows_none modulus capacity batch more word p c puts takes ring proper_puts proper_takes t s k x st r o, e')

  -- and if it read the close bit as 0, no close had ended before it began
  pub empty_open :
      (t s k : ℕ) (x : Span) → IsSpanAt takes s k x → x.outcome ≡ Asks false → s + before_count x ≤ c t → (first : ℕ) → IsPlace c s first →
      p first < total puts + 2
  empty_open t s k x st o l first is =
      let w = before-whole more x (proper_at more takes proper_takes s k x st) in
      let word : 1 ≤ x.word = ring.asks_words s k x false st o in
      let from = place_of c (clock_c p c ring.clocks) (s + x.scan) t (omega (arith, word)) in
      let last = place_of c (clock_c p c ring.clocks) (s + (before_count x - 1)) t (omega (arith, w)) in
      let law = (ring.close_reads s k x false st o from.place last.place (s + (before_count x - 1)) from.is last.is (omega (arith, w))).0 refl in
      let order : first ≤ from.place = elim (at_most_or_above first from.place) [
        | inl m ↦ m
        | inr m ↦ absurd (omega (arith, up_c (suc from.place) first m, from.is, is))
      ] in
      omega (arith, law, up_p first from.place order)

  -- a put that stores nothing: the puts before it, less the takes that had ended before it began, are at least the capacity
  pub full_fresh :
      (t s n : ℕ) (x : Span) → IsSpanAt puts s n x → counts x.outcome ≡ 0 → s + x.scan ≤ p t → (first : ℕ) → IsPlace p s first →
      counts_ended takes (c first) + capacity ≤ n
  full_fresh t s n x st o l first is =
      let r = left_at modulus capacity batch more word p c puts takes ring proper_puts proper_takes t s n x st l in
      omega (arith, r.since first is, leaves_none modulus capacity batch more word p c puts takes ring proper_puts proper_takes t s n x st r o)

  -- a put whose items fill all the room that its scan left
  pub fill_fresh :
      (t s n : ℕ) (x : Span) → IsSpanAt puts s n x → distance modulus (n % modulus) x.seen + counts x.outcome ≡ capacity → s + x.scan ≤ p t →
      (first : ℕ) → IsPlace p s first → counts_ended takes (c first) + capacity ≤ n + counts x.outcome
  fill_fresh t s n x st fills l first is =
      let r = left_at modulus capacity batch more word p c puts takes ring proper_puts proper_takes t s n x st l in
      let fits = ring.modulus_fits_takes in
      let fills' : distance modulus (n % modulus) (r.number % modulus) + counts x.outcome ≡ capacity = rw r.value at fills in
      omega (arith, fills', distance_of modulus r.number n r.high (omega (arith, fits, r.low)), r.high, r.since first is)

  -- a take that takes all the items that its scan showed
  pub drain_fresh :
      (t s k : ℕ) (x : Span) → IsSpanAt takes s k x → 1 ≤ counts x.outcome → distance modulus x.seen (k % modulus) ≡ counts x.outcome → s + x.scan ≤ c t →
      (first : ℕ) → IsPlace c s first → counts_ended puts (p first) ≤ k + counts x.outcome
  drain_fresh t s k x st o drains l first is =
      let r = shown_at modulus capacity batch more word p c puts takes ring proper_puts proper_takes t s k x st l in
      let fits = ring.modulus_fits in
      let drains' : distance modulus (r.number % modulus) (k % modulus) ≡ counts x.outcome = rw r.value at drains in
      elim (at_most_or_above k r.number) [
        | inl m ↦ omega (arith, drains', distance_of modulus k r.number m (omega (arith, fits, r.high)), r.since first is)
        | inr m ↦ omega (arith, m, r.since first is)
      ]

  -- a take that read the close bit as 1, scanned again and saw no item: every item put has been taken, and no more come
  pub closed :
      (t s k : ℕ) (x z : Span) → IsSpanAt takes s k x → x.outcome ≡ Asks true → IsSpanAt takes (s + whole x) k z → counts z.outcome ≡ 0 →
      s + whole x + z.scan ≤ c t →
      (begun_items puts (p t) ≡ all_items puts) × (ended_items takes (c t) ≡ all_items puts) × (total puts < p t)
  closed t s k x z st o sz oz l =
      let w = before-whole more x (proper_at more takes proper_takes s k x st) in
      let wz = before-whole more z (proper_at more takes proper_takes (s + whole x) k z sz) in
      let scan : 1 ≤ z.scan = (proper_at more takes proper_takes (s + whole x) k z sz).scan in
      let asked : 1 ≤ x.word = ring.asks_words s k x true st o in
      let from = place_of c (clock_c p c ring.clocks) (s + x.scan) t (omega (arith, asked, w)) in
      let last = place_of c (clock_c p c ring.clocks) (s + (before_count x - 1)) t (omega (arith, w)) in
      let again = place_of c (clock_c p c ring.clocks) (s + whole x) t (omega (arith, scan)) in
      let law = (ring.close_reads s k x true st o from.place last.place (s + (before_count x - 1)) from.is last.is (omega (arith, w))).1 refl in
      let order : last.place ≤ again.place = elim (at_most_or_above last.place again.place) [
        | inl m ↦ m
        | inr m ↦ absurd (omega (arith, up_c (suc again.place) last.place m, last.is, again.is, w))
      ] in
      let over : total puts < p again.place = omega (arith, law, up_p last.place again.place order) in
      let over_now : total puts < p t = omega (arith, over, up_p again.place t (omega (arith, again.before))) in
      let r = shown_at modulus capacity batch more word p c puts takes ring proper_puts proper_takes t (s + whole x) k z sz l in
      let low = r.since again.place again.is in
      let high = shows_none modulus capacity batch more word p c puts takes ring proper_puts proper_takes t (s + whole x) k z sz r oz in
      let all = ended_all puts (p again.place) (omega (arith, over)) in
      let e : counts_ended takes (s + whole x + 0) ≡ k = ended_at more takes proper_takes (s + whole x) k z sz 0 (omega (arith, wz, scan)) in
      let had = ended_up more takes proper_takes (s + whole x + 0) (c t) (omega arith) in
      let most = begun_all batch puts proper_puts (p t) in
      let same : length (begun_items puts (p t)) ≤ length (ended_items takes (c t)) = grind (arith, length-begun_items, length-ended_items) in
      grind (arith, all_begun, drop_of_length-le, prefix, append-nil)
