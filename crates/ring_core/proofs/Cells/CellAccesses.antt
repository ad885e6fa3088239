-- An access to a digit of a cell is one of a word that a call writes or reads, so accesses of the two sides do not overlap.
use Rattle.std.proofs.Common.{◌≡◌, ◌⊎◌, inl, inr, ℕ, zero, suc, ◌+◌, ◌-◌, ◌*◌, ◌%◌, ◌<◌, ◌≤◌, Bool, true, false, Option, Some, None, List, [], ◌∷◌, ◌++◌, length, drop, if◌then◌else◌, refl, sym, ap, subst, ◌∙◌, arith, length-append}
use Rattle.std.specs.Prelude.{slice_get}
use Rattle.ring_core.proofs.Common.{suc-mul, slice_get_within, Side, P, C, Bit, S, R, X, Cell, Access, Shape, capacity_of, width_of, is_by, Count, first_count, count_bits, batch_phrase, Puts, Stored}
use Rattle.ring_core.proofs.Common.{Full, stored_in, words_phrase, put_phrase, put_phrases, close_phrase, put_program, events_in, taken_of, access_is_made, subhistory_has_place}
use Rattle.bits_core.specs.declared.events.Access.TheVariants as begins
use Rattle.bits_core.specs.declared.events.Event.{Event}
use Rattle.bits_core.specs.Intervals.{IsAccess, Overlap, first_place}
use Rattle.bits_core.specs.Made.{Made, Read, Write, access_of, subhistory, place_of, IsPlaceOf}
use Rattle.bits_core.proofs.Statements.{IsMadeAt}
use Rattle.register_core.specs.Row.{RowWrite, row_bit, writes_in}
use Rattle.register_core.specs.Word.{digit, digit_reads, digit_writes, word_read, word_write}
use Rattle.register_core.specs.ScanState.{zero_reads, scan_phrase, row_read_by}
use Rattle.ring_core.specs.Takes.{accesses_before_word, Takes, Item, ItemAfterClose, Empty, End, Open, Closed, taken_in, words_read, items_phrase, take_phrase, take_phrases, end_phrase, take_program}
use Rattle.ring_core.specs.CallsAt.{IsCallAt}
use Rattle.ring_core.specs.RingLaw.{IsRun, IsInterval, CellsAreQuiet}
use Rattle.ring_core.proofs.Cells.ItemPlaces.{HasItem, has_item, put_scan, ItemsAreQuiet}
use Rattle.ring_core.proofs.OverSpans.CallSpans.{put_items}
use Rattle.ring_core.proofs.Readings.ByCalls.{GoByCalls, puts_go_by_calls, takes_go_by_calls}
use Rattle.ring_core.proofs.Readings.Cuts.{at_most_or_above}
use Rattle.ring_core.proofs.OwnEvents.{clock_within, clock_rises}
use Rattle.ring_core.proofs.Machines.Lengths.{length-words}
use Rattle.register_core.proofs.Digits.{length-reads}

-- ---- accesses of cells in a list of accesses

-- the cell of a bit, and of an access that was made
abbrev cell_number : Bit → Option ℕ
cell_number (S i) = None
cell_number (R i) = None
cell_number X = None
cell_number (Cell j d) = Some j

abbrev cell_of : Made → Option ℕ
cell_of (Read b v) = cell_number b
cell_of (Write b v) = cell_number b

abbrev bit_of : Access → Bit
bit_of (begins.Read b) = b
bit_of (begins.Write b v) = b

cell_is : (x : Made) → cell_of x ≡ cell_number (bit_of (access_of x))
cell_is x = grind arith

-- access number m is of a digit of cell j
abbrev AtCell : List Made → ℕ → ℕ → Type 0
AtCell made m j = (x : Made) × (slice_get made m ≡ Some x) × (cell_of x ≡ Some j)

abbrev NoCells : List Made → Type 0
NoCells made = (m j : ℕ) → AtCell made m j → ⊥

-- it is in the first list or in the second
at_parts :
    (xs ys : List Made) (m j : ℕ) → AtCell (xs ++ ys) m j →
    ((m < length xs) × AtCell xs m j) ⊎ ((n : ℕ) × (m ≡ length xs + n) × AtCell ys n j)
at_parts [] ys m j at = inr (m, omega arith, at)
at_parts (x ∷ xs) ys zero j (y, e, f) = inl (omega arith, (y, e, f))
at_parts (x ∷ xs) ys (suc m) j (y, e, f) = grind (arith, at_parts xs ys m j (y, e, f))

none-append : (xs ys : List Made) → NoCells xs → NoCells ys → NoCells (xs ++ ys)
none-append xs ys a b m j at = elim (at_parts xs ys m j at) [ inl (l, in_xs) ↦ a m j in_xs | inr (n, e, in_ys) ↦ b n j in_ys ]

none-nil : NoCells []
none-nil m j (y, e, f) = absurd (cc)

none-one : (x : Made) → cell_of x ≡ None → NoCells (x ∷ [])
none-one x none zero j (y, e, f) = absurd (let same : x ≡ y = cc in let g : None ≡ Some j = sym none ∙ ap cell_of same ∙ f in cc)
none-one x none (suc m) j (y, e, f) = absurd (cc)

none-zeros : (s : Side) (n : ℕ) → NoCells (zero_reads (row_bit s) n)
none-zeros s zero = none-nil
none-zeros s (suc n) = none-append (zero_reads (row_bit s) n) (Read (row_bit s n) false ∷ []) (none-zeros s n) (none-one (Read (row_bit s n) false) (grind arith))

none-scan : (s : Side) (c : ℕ) → NoCells (scan_phrase (row_bit s) c)
none-scan s c = none-append (zero_reads (row_bit s) c) (Read (row_bit s c) true ∷ []) (none-zeros s c) (none-one (Read (row_bit s c) true) (grind arith))

none-row : (s : Side) (writes : List RowWrite) → NoCells (writes_in (row_bit s) writes)
none-row s [] = none-nil
none-row s (w ∷ writes) =
    none-append (Write (row_bit s w.bit) w.value ∷ []) (writes_in (row_bit s) writes) (none-one (Write (row_bit s w.bit) w.value) (grind arith)) (none-row s writes)

-- the digits of a word are of its cell
in_cell_write : (k : ℕ) (writes : List RowWrite) (m j : ℕ) → AtCell (writes_in (Cell k) writes) m j → k ≡ j
in_cell_write k [] m j (y, e, f) = absurd (cc)
in_cell_write k (w ∷ writes) zero j (y, e, f) = grind arith
in_cell_write k (w ∷ writes) (suc m) j (y, e, f) = in_cell_write k writes m j (y, e, f)

in_cell_read : (k item n m j : ℕ) → AtCell (digit_reads k item n) m j → k ≡ j
in_cell_read k item zero m j (y, e, f) = absurd (cc)
in_cell_read k item (suc n) m j at = elim (at_parts (digit_reads k item n) (Read (Cell k n) (digit n item) ∷ []) m j at) [
  | inl (l, before) ↦ in_cell_read k item n m j before
  | inr (i, e, last) ↦ grind arith
]

length-word : (shape : Shape) (n item : ℕ) → length (word_write (width_of shape) (n % capacity_of shape) item) ≡ width_of shape
length-word shape n item = grind (arith, length-words shape n (item ∷ []), length-append (word_write (width_of shape) (n % capacity_of shape) item) [])

-- ---- words

-- access m is one of the word of an item of these, the first of which has number n
abbrev InWords : Shape → ℕ → List ℕ → ℕ → ℕ → Type 0
InWords shape n items m j =
    (index : ℕ) × (item : ℕ) × (slice_get items index ≡ Some item) × ((n + index) % capacity_of shape ≡ j) ×
    (index * width_of shape ≤ m) × (m < index * width_of shape + width_of shape)

in_words_by :
    (shape : Shape) (words : ℕ → List ℕ → List Made) (word : ℕ → ℕ → List Made) → ((n : ℕ) → words n [] ≡ []) →
    ((n item : ℕ) (items : List ℕ) → words n (item ∷ items) ≡ word n item ++ words (suc n) items) → ((n item : ℕ) → length (word n item) ≡ width_of shape) →
    ((n item m j : ℕ) → AtCell (word n item) m j → n % capacity_of shape ≡ j) →
    (n : ℕ) (items : List ℕ) (m j : ℕ) → AtCell (words n items) m j → InWords shape n items m j
in_words_by shape words word none more long cell_is n [] m j at = absurd (none-nil m j (subst (λ l. AtCell l m j) (none n) at))
in_words_by shape words word none more long cell_is n (item ∷ items) m j at =
    let w : ℕ = width_of shape in
    let nothing : 0 * w ≡ 0 = omega arith in
    let same : n + 0 ≡ n = omega arith in
    elim (at_parts (word n item) (words (suc n) items) m j (subst (λ l. AtCell l m j) (more n item items) at)) [
      | inl (l, here) ↦ (0, item, refl, ap (λ k. k % capacity_of shape) same ∙ cell_is n item m j here, omega (arith, nothing), omega (arith, nothing, l, long n item))
      | inr (i, e, later) ↦ (
          let (index, x, listed, cell, low, high) = in_words_by shape words word none more long cell_is (suc n) items i j later in
          let next : suc n + index ≡ n + suc index = omega arith in
          let size : suc index * w ≡ index * w + w = suc-mul index w in
          let here : length (word n item) ≡ w = long n item in
          (suc index, x, listed, ap (λ k. k % capacity_of shape) (sym next) ∙ cell, omega (arith, e, here, low, size), omega (arith, e, here, high, size)))
    ]

-- ---- the word of a call

-- the call whose word it is of
pub record InCall {X : Type 0} (phrases : Count → List X → List Made) (counted : ℕ → List X → ℕ) (front : X → List Made) (items : X → List ℕ) (shape : Shape)
    (c : Count) (calls : List X) (m j : ℕ) : Type 0 where
  pub before : List X
  pub call : X
  pub after : List X
  pub index : ℕ
  pub item : ℕ
  pub among : calls ≡ before ++ call ∷ after
  pub has : slice_get (items call) index ≡ Some item
  pub cell : (counted c.number before + index) % capacity_of shape ≡ j
  pub low : length (phrases c before) + length (front call) + index * width_of shape ≤ m
  pub high : m < length (phrases c before) + length (front call) + index * width_of shape + width_of shape

-- in a call it is in one of its words
abbrev InsideOf : {X : Type 0} → (Count → X → List Made) → (X → List Made) → (X → List ℕ) → Shape → Type 0
InsideOf phrase front items shape =
    (c : Count) (x : _) (m j : ℕ) → AtCell (phrase c x) m j → (n : ℕ) × (m ≡ length (front x) + n) × InWords shape c.number (items x) n j

in_calls :
    {X : Type 0} → {phrase : Count → X → List Made} → {phrases : Count → List X → List Made} → {after : Count → X → Count} → {state : Count → List X → Count} →
    GoByCalls phrase phrases after state → (counted : ℕ → List X → ℕ) (front : X → List Made) (items : X → List ℕ) (shape : Shape) → ((n : ℕ) → counted n [] ≡ n) →
    ((c : Count) (x : X) (xs : List X) → counted c.number (x ∷ xs) ≡ counted (after c x).number xs) → InsideOf phrase front items shape →
    (c : Count) (xs : List X) (m j : ℕ) → AtCell (phrases c xs) m j → InCall phrases counted front items shape c xs m j
in_calls go counted front items shape none more inside c [] m j at = absurd (none-nil m j (subst (λ l. AtCell l m j) (go.none c) at))
in_calls {phrase} {phrases} {after} go counted front items shape none more inside c (x ∷ xs) m j at =
    elim (at_parts (phrase c x) (phrases (after c x) xs) m j (subst (λ l. AtCell l m j) (go.more c x xs) at)) [
      | inl (l, here) ↦ (
          let (n, e, (index, item, listed, cell, low, high)) = inside c x m j here in
          let nothing : length (phrases c []) ≡ 0 = ap length (go.none c) in
          record {
            before = [];
            call = x;
            after = xs;
            index = index;
            item = item;
            among = refl;
            has = listed;
            cell = ap (λ k. (k + index) % capacity_of shape) (none c.number) ∙ cell;
            low = omega (arith, e, low, nothing);
            high = omega (arith, e, high, nothing);
          })
      | inr (n, e, later) ↦ (
          let r = in_calls go counted front items shape none more inside (after c x) xs n j later in
          let long : length (phrases c (x ∷ r.before)) ≡ length (phrase c x) + length (phrases (after c x) r.before) =
          ap length (go.more c x r.before) ∙ length-append (phrase c x) (phrases (after c x) r.before) in
          record {
            before = x ∷ r.before;
            call = r.call;
            after = r.after;
            index = r.index;
            item = r.item;
            among = ap (λ l. x ∷ l) r.among;
            has = r.has;
            cell = ap (λ k. (k + r.index) % capacity_of shape) (more c x r.before) ∙ r.cell;
            low = omega (arith, e, long, r.low);
            high = omega (arith, e, long, r.high);
          })
    ]

-- the item of the word
item_in :
    {X : Type 0} → {phrases : Count → List X → List Made} → {counted : ℕ → List X → ℕ} → {front : X → List Made} → {items : X → List ℕ} → {shape : Shape} → {xs : List X} → {m j : ℕ} →
    (r : InCall phrases counted front items shape first_count xs m j) →
    HasItem (IsCallAt (phrases first_count) (counted 0) xs) front items (width_of shape) (counted 0 r.before + r.index) r.item
    (events_in (phrases first_count r.before) + events_in (front r.call) + 2 * (r.index * width_of shape)) (events_in (phrases first_count (r.before ++ r.call ∷ [])))
item_in {phrases} {counted} {front} {items} {shape} {xs} r = search (arith, has_item)

-- ---- the word of a put

in_words : (shape : Shape) (n : ℕ) (items : List ℕ) (m j : ℕ) → AtCell (words_phrase shape n items) m j → InWords shape n items m j
in_words shape =
    in_words_by shape (words_phrase shape) (λ n. word_write (width_of shape) (n % capacity_of shape)) (λ n. refl) (λ n item items. refl) (length-word shape)
    (λ n item. in_cell_write (n % capacity_of shape) (digit_writes item (width_of shape)))

in_put : (shape : Shape) → InsideOf (put_phrase shape) put_scan put_items shape
in_put shape c (Full seen) m j at = absurd (none-scan C seen m j at)
in_put shape c (Stored seen items) m j at =
    let a : List Made = scan_phrase (row_read_by P) seen in
    let b : List Made = words_phrase shape c.number items in
    elim (at_parts (a ++ b) (batch_phrase shape P c items) m j at) [
      | inr (n, e, in_count) ↦ absurd (none-row P (count_bits shape c items) n j in_count)
      | inl (l, front) ↦ elim (at_parts a b m j front) [
        | inl (l', in_scan) ↦ absurd (none-scan C seen m j in_scan)
        | inr (n, e, word) ↦ (n, e, in_words shape c.number items n j word)
      ]
    ]

none-close : (closes : Bool) → NoCells (close_phrase closes)
none-close closes = grind (arith, none-one, none-nil)

-- ---- the word of a take

in_reads : (shape : Shape) (n : ℕ) (items : List ℕ) (m j : ℕ) → AtCell (words_read shape n items) m j → InWords shape n items m j
in_reads shape =
    in_words_by shape (words_read shape) (λ n. word_read (width_of shape) (n % capacity_of shape)) (λ n. refl) (λ n item items. refl)
    (λ n item. length-reads (n % capacity_of shape) item (width_of shape)) (λ n item. in_cell_read (n % capacity_of shape) item (width_of shape))

-- after what precedes its words, a take of items has them, and then its count write
in_items : (shape : Shape) (c : Count) (items : List ℕ) (m j : ℕ) → AtCell (items_phrase shape c items) m j → InWords shape c.number items m j
in_items shape c items m j at =
    elim (at_parts (words_read shape c.number items) (batch_phrase shape C c items) m j at) [
      | inl (l, word) ↦ in_reads shape c.number items m j word
      | inr (n, e, in_count) ↦ absurd (none-row C (count_bits shape c items) n j in_count)
    ]

none-asks : (seen : ℕ) (answer : Bool) → NoCells (scan_phrase (row_bit P) seen ++ Read X answer ∷ [])
none-asks seen answer = none-append (scan_phrase (row_bit P) seen) (Read X answer ∷ []) (none-scan P seen) (none-one (Read X answer) refl)

none-twice : (seen again : ℕ) → NoCells (scan_phrase (row_bit P) seen ++ Read X true ∷ scan_phrase (row_bit P) again)
none-twice seen again =
    none-append (scan_phrase (row_bit P) seen) (Read X true ∷ scan_phrase (row_bit P) again) (none-scan P seen)
    (none-append (Read X true ∷ []) (scan_phrase (row_bit P) again) (none-one (Read X true) refl) (none-scan P again))

in_take : (shape : Shape) → InsideOf (take_phrase shape) accesses_before_word taken_of shape
in_take shape c (Empty seen) m j at = absurd (none-asks seen false m j at)
in_take shape c (Item seen items) m j at = elim (at_parts (scan_phrase (row_read_by C) seen) (items_phrase shape c items) m j at) [
  | inl (l, front) ↦ absurd (none-scan P seen m j front)
  | inr (n, e, word) ↦ (n, e, in_items shape c items n j word)
]
in_take shape c (ItemAfterClose seen again items) m j at = elim (at_parts (accesses_before_word (ItemAfterClose seen again items)) (items_phrase shape c items) m j at) [
  | inl (l, front) ↦ absurd (none-twice seen again m j front)
  | inr (n, e, word) ↦ (n, e, in_items shape c items n j word)
]

none-end : (end : End) → NoCells (end_phrase end)
none-end Open = none-nil
none-end (Closed seen again) = none-twice seen again

-- ---- places

-- one of a side's own events is at no later a place than a later one
in_order : (s : Side) (h : List Event) (i e a b : ℕ) → i ≤ e → IsPlaceOf s h i a → IsPlaceOf s h e b → a ≤ b
in_order s h i e a b l p q = elim (at_most_or_above a b) [ inl m ↦ m | inr m ↦ absurd (omega (arith, clock_rises s h (suc b) a m, p.before, q.past, l)) ]

if_within : (b : Bool) (n m : ℕ) → n ≤ m → (if b then 0 else suc n) ≤ suc m
if_within b n m l = grind arith

first_within : (s : Side) (h : List Event) → first_place s h ≤ length h
first_within s [] = omega arith
first_within s (e ∷ h) = if_within (is_by s e) (first_place s h) (length h) (first_within s h)

drop_within : {A : Type 0} → (xs : List A) (i : ℕ) → i ≤ length xs → i + length (drop i xs) ≡ length xs
drop_within xs zero l = omega arith
drop_within [] (suc i) l = absurd (omega (arith, l))
drop_within (x ∷ xs) (suc i) l = omega (arith, drop_within xs i (omega (arith, l)))

-- an access ends no later than the history
ends_within : (h : List Event) (s : Side) (a : Access) (start stop : ℕ) → IsAccess h s a start stop → stop ≤ length h
ends_within h s a start stop r = grind (arith, slice_get_within, first_within, drop_within)

-- the word that an access is one of has an interval, which the access lies in
around :
    (s : Side) (h : List Event) (m : ℕ) (x : Made) (start stop word long : ℕ) → IsMadeAt s h m x start stop →
    word ≤ 2 * m → 2 * m + 2 ≤ word + long → (a : ℕ) × (b : ℕ) × IsInterval s h word (word + long - 1) a b × (a ≤ start) × (stop ≤ b)
around s h m x start stop word long r low high =
    let begun : 2 * m < length (subhistory s h) = omega (arith, r.start_is.past, clock_within s h (suc start)) in
    let a : ℕ = place_of s h word in
    let at_a : IsPlaceOf s h word a = subhistory_has_place s h word (omega (arith, low, begun)) in
    let before : a ≤ start = in_order s h word (2 * m) a start low at_a r.start_is in
    elim (at_most_or_above (length (subhistory s h)) (word + long - 1)) [
      | inl l ↦ (a, length h, record { begins = at_a; ends = inr (l, refl) }, before, ends_within h s _ start stop r.access)
      | inr l ↦ (
          let b : ℕ = place_of s h (word + long - 1) in
          let at_b : IsPlaceOf s h (word + long - 1) b = subhistory_has_place s h (word + long - 1) l in
          let (at_stop, event) = r.ended (omega (arith, l, high)) in
          (a, b, record { begins = at_a; ends = inl at_b }, before, in_order s h (suc (2 * m)) (word + long - 1) stop b (omega (arith, high)) at_stop at_b))
    ]

-- ---- cells

-- no access of the producer to a digit of a cell overlaps one of the consumer to a digit of it
digits_are_quiet :
    (shape : Shape) (h : List Event) (puts : Puts) (takes : Takes) → IsRun shape h puts takes → ItemsAreQuiet shape h puts takes →
    (j d d' : ℕ) (a a' : Access) (start stop start' stop' : ℕ) → IsAccess h P a start stop → bit_of a ≡ Cell j d →
    IsAccess h C a' start' stop' → bit_of a' ≡ Cell j d' → ¬ Overlap start stop start' stop'
digits_are_quiet shape h puts takes run words j d d' a a' start stop start' stop' p of_p c of_c (not_after, not_before) =
    let (m, x, x_at, x_is, made) = access_is_made P h (put_program shape puts) run.puts_follow.events a start stop p in
    let (m', y, y_at, y_is, made') = access_is_made C h (take_program shape takes) run.takes_follow.events a' start' stop' c in
    let x_cell : cell_of x ≡ Some j = cell_is x ∙ ap (λ e. cell_number (bit_of e)) x_is ∙ ap cell_number of_p in
    let y_cell : cell_of y ≡ Some j = cell_is y ∙ ap (λ e. cell_number (bit_of e)) y_is ∙ ap cell_number of_c in
    elim (at_parts (put_phrases shape first_count puts.puts) (close_phrase puts.closes) m j (x, x_at, x_cell)) [
      | inr (n, e, at) ↦ none-close puts.closes n j at
      | inl (l, at) ↦ elim (at_parts (take_phrases shape first_count takes.takes) (end_phrase takes.end) m' j (y, y_at, y_cell)) [
        | inr (n', e', at') ↦ none-end takes.end n' j at'
        | inl (l', at') ↦ (
            let r = in_calls (puts_go_by_calls shape) stored_in put_scan put_items shape (λ n. refl) (λ c x xs. refl) (in_put shape) first_count puts.puts m j at in
            let q = in_calls (takes_go_by_calls shape) taken_in accesses_before_word taken_of shape (λ n. refl) (λ c x xs. refl) (in_take shape) first_count takes.takes m' j at' in
            let word : ℕ = events_in (put_phrases shape first_count r.before) + events_in (put_scan r.call) + 2 * (r.index * width_of shape) in
            let word' : ℕ = events_in (take_phrases shape first_count q.before) + events_in (accesses_before_word q.call) + 2 * (q.index * width_of shape) in
            let (from, to, on, from_l, to_l) = around P h m x start stop word (2 * width_of shape) made (omega (arith, r.low)) (omega (arith, r.high)) in
            let (from', to', off, from_l', to_l') = around C h m' y start' stop' word' (2 * width_of shape) made' (omega (arith, q.low)) (omega (arith, q.high)) in
            words _ r.item word _ (item_in r) _ q.item word' _ (item_in q) (r.cell ∙ sym q.cell) from to from' to' on off
            ((λ e. not_after (omega (arith, e, to_l, from_l'))), (λ e. not_before (omega (arith, e, to_l', from_l)))))
      ]
    ]

pub cells_are_quiet :
    (shape : Shape) (h : List Event) (puts : Puts) (takes : Takes) → IsRun shape h puts takes → ItemsAreQuiet shape h puts takes →
    CellsAreQuiet shape h puts takes
cells_are_quiet shape h puts takes run words j d d' v start stop start' stop' write read =
    digits_are_quiet shape h puts takes run words j d d' (begins.Write (Cell j d) v) (begins.Read (Cell j d')) start stop start' stop' write refl read refl
