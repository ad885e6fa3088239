-- Which put an access to a cell belongs to, and where the accesses of a put's word are.
use Rattle.std.proofs.Common.{◌≡◌, inl, inr, ℕ, zero, suc, ◌+◌, ◌*◌, ◌%◌, ◌<◌, ◌≤◌, Bool, true, cond, nat_eq, Some, List, [], ◌∷◌, ◌++◌, length, refl, sym, ap, subst, ◌∙◌, arith, append_assoc, length-append}
use Rattle.std.specs.Prelude.{slice_get}
use Rattle.ring_core.proofs.Common.{map-append, add-mul, suc-mul, eq-eqb, Side, P, C, Cell, Shape, capacity_of, width_of, Made, Write, access_of, Count, words_phrase}
use Rattle.bits_core.specs.declared.events.Access.TheVariants as begins
use Rattle.bits_core.proofs.Places.{slice_get-append, slice_get-behind}
use Rattle.register_core.specs.Row.{writes_in}
use Rattle.register_core.specs.Word.{digit, digit_writes, word_write, word_writes, word_read}
use Rattle.register_core.specs.ScanState.{scan_phrase, row_read_by}
use Rattle.register_core.proofs.WordMachines.{writer-feeds as digits-snoc}
use Rattle.ring_core.proofs.OverSpans.Spans.{Outcome, Span, counts, items_of, whole, IsSpanAt}
use Rattle.ring_core.proofs.OverSpans.LookSpans.{Look, words_read, word_part, count_part, after_look, look_accesses, span_of, spans}
use Rattle.ring_core.proofs.Readings.Phrases.{length-digit_writes, digits_split}
use Rattle.ring_core.proofs.Machines.Lengths.{length-word_write, length-word_read}
use Rattle.ring_core.proofs.Cells.CellTimes.{to_cell, to_cell-append, to_cell-there, where_in, none_there, none_to_cell, no_cells-scan, no_cells-count, own_cell, look_to_cell, word_to_cell, length-word_writes, stored_to, items_here, cell_items}
use Rattle.ring_core.proofs.OverSpans.Looks.{after_counts, word_length as length-part}
use Rattle.ring_core.proofs.Readings.Cuts.{at_most_or_above}
use Rattle.ring_core.proofs.Readings.Parts.{never as none_in_nil}

-- ---- the order of spans

-- a span ends before each span with a larger number begins
pub stands_order : (xs : List Span) (s n s' n' : ℕ) (x x' : Span) → IsSpanAt xs s n x → IsSpanAt xs s' n' x' → n < n' → s + whole x ≤ s'
stands_order [] s n s' n' x x' st st' l = elim st [ ]
stands_order (y ∷ ys) s n s' n' x x' (inl a) v8 l = grind arith
stands_order (y ∷ ys) s n s' n' x x' (inr a) (inl b) l = absurd (omega (arith, b.1, l))
stands_order (y ∷ ys) s n s' n' x x' (inr a) (inr b) l = grind (arith, stands_order ys a.0 a.1 b.0 b.1 x x' a.4 b.4 (omega (arith, a.3, b.3, l)))

-- after a span its items are counted
pub stands_numbers : (xs : List Span) (s n s' n' : ℕ) (x x' : Span) → IsSpanAt xs s n x → IsSpanAt xs s' n' x' → n < n' → n + counts x.outcome ≤ n'
stands_numbers [] s n s' n' x x' st st' l = elim st [ ]
stands_numbers (y ∷ ys) s n s' n' x x' (inl a) v8 l = grind arith
stands_numbers (y ∷ ys) s n s' n' x x' (inr a) (inl b) l = absurd (omega (arith, b.1, l))
stands_numbers (y ∷ ys) s n s' n' x x' (inr a) (inr b) l = grind (arith, stands_numbers ys a.0 a.1 b.0 b.1 x x' a.4 b.4 (omega (arith, a.3, b.3, l)))

-- two spans that count items after the same number begin at one place
pub stands_same :
    (xs : List Span) (s n s' : ℕ) (x x' : Span) → IsSpanAt xs s n x → 1 ≤ counts x.outcome → IsSpanAt xs s' n x' → 1 ≤ counts x'.outcome → (s ≡ s') × (x ≡ x')
stands_same [] s n s' x x' st o st' o' = elim st [ ]
stands_same (y ∷ ys) s n s' x x' (inl a) o v8 o' = grind arith
stands_same (y ∷ ys) s n s' x x' (inr a) o (inl b) o' = absurd (omega (arith, o', b.1, a.3, ap (λ (z : Span). counts z.outcome) b.2))
stands_same (y ∷ ys) s n s' x x' (inr a) o (inr b) o' =
    let z : b.1 ≡ a.1 = omega (arith, a.3, b.3) in
    let st' : IsSpanAt ys b.0 a.1 x' = subst (λ (k : ℕ). IsSpanAt ys b.0 k x') z b.4 in
    grind (arith, stands_same ys a.0 a.1 b.0 x x' a.4 o st' o')

-- one multiple is at most the other
pub multiple_up : (a b w : ℕ) → a ≤ b → a * w ≤ b * w
multiple_up a b w l = grind (arith, add-mul)

-- words come in the order of their items
pub words_order :
    (w : ℕ) (xs : List Span) (s n i s' n' i' : ℕ) (x x' : Span) → IsSpanAt xs s n x → IsSpanAt xs s' n' x' → i < counts x.outcome → i' < counts x'.outcome →
    x.word ≡ 2 * (counts x.outcome * w) → n + i ≤ n' + i' → s + x.scan + 2 * (i * w) ≤ s' + x'.scan + 2 * (i' * w)
words_order w xs s n i s' n' i' x x' st st' l l' word o = grind (arith, at_most_or_above, stands_numbers, stands_order, multiple_up, counts, stands_same)

-- ---- from an access to its put

-- the put whose word of the cell has its digit d after this many events
pub record CellTime (shape : Shape) (looks : List Look) (c : Count) (j d place : ℕ) : Type 0 where
  pub start : ℕ
  pub number : ℕ
  pub index : ℕ
  pub put : Span
  pub item : ℕ
  pub stands : IsSpanAt (spans P shape c looks) start number put
  pub stored : slice_get (items_of put.outcome) index ≡ Some item
  pub same_cell : (c.number + (number + index)) % capacity_of shape ≡ j
  pub place_is : place ≡ start + put.scan + 2 * (index * width_of shape) + 2 * d
  pub within : d < width_of shape

-- an access in a list of one is that one
only_one : (y : Made) (before : List Made) (x : Made) (after : List Made) → y ∷ [] ≡ before ++ x ∷ after → (before ≡ []) × (y ≡ x)
only_one y [] x after e = (refl, cc)
only_one y (z ∷ []) x after e = absurd (cc)
only_one y (z ∷ w ∷ before) x after e = absurd (cc)

-- an access among the writes of digits is of the digit whose number is how many come before it
digit_of :
    (c item w : ℕ) (before : List Made) (x : Made) (after : List Made) (j d : ℕ) (v : Bool) →
    writes_in (Cell c) (digit_writes item w) ≡ before ++ x ∷ after → access_of x ≡ begins.Write (Cell j d) v → (c ≡ j) × (length before ≡ d) × (d < w)
digit_of c item zero before x after j d v e f = absurd (none_in_nil before x after e)
digit_of c item (suc w) before x after j d v e f =
    let us : List Made = writes_in (Cell c) (digit_writes item w) in
    let last : Made = Write (Cell c w) (digit w item) in
    elim (where_in us (last ∷ []) before x after (sym (digits-snoc c item w) ∙ e)) [
      | inl (rest, us_is, after_is) ↦ grind (arith, digit_of c item w before x rest j d v us_is f)
      | inr (more, before_is, vs_is) ↦ grind (arith, only_one, length-append, length-word_write)
    ]

-- the word of these items, and its digit, that an access to a cell is of
pub record WordOf (shape : Shape) (n j d place : ℕ) (items : List ℕ) : Type 0 where
  pub index : ℕ
  pub item : ℕ
  pub stored : slice_get items index ≡ Some item
  pub same_cell : (n + index) % capacity_of shape ≡ j
  pub place_is : place ≡ index * width_of shape + d
  pub within : d < width_of shape

word_of :
    (shape : Shape) (n : ℕ) (items : List ℕ) (before : List Made) (x : Made) (after : List Made) (j d : ℕ) (v : Bool) →
    words_phrase shape n items ≡ before ++ x ∷ after → access_of x ≡ begins.Write (Cell j d) v → WordOf shape n j d (length before) items
word_of shape n [] before x after j d v e f = absurd (none_in_nil before x after e)
word_of shape n (item ∷ items) before x after j d v e f =
    let cell : ℕ = n % capacity_of shape in
    let w : ℕ = width_of shape in
    let word : List Made = writes_in (Cell cell) (digit_writes item w) in
    elim (where_in word (words_phrase shape (suc n) items) before x after e) [
      | inl (rest, word_is, after_is) ↦ (
          let (cells, places, below) = digit_of cell item w before x rest j d v word_is f in
          let none : n + 0 ≡ n = omega arith in
          record {
            index = 0;
            item = item;
            stored = refl;
            same_cell = ap (λ k. k % capacity_of shape) none ∙ cells;
            place_is = omega (arith, places);
            within = below;
          })
      | inr (more, before_is, rest_is) ↦ (
          let r = word_of shape (suc n) items more x after j d v rest_is f in
          let numbers : n + suc r.index ≡ suc n + r.index = omega arith in
          record {
            index = suc r.index;
            item = r.item;
            stored = r.stored;
            same_cell = ap (λ k. k % capacity_of shape) numbers ∙ r.same_cell;
            place_is = grind (arith, r.place_is, ap length before_is, length-append word more, suc-mul r.index w, length-word_write);
            within = r.within;
          })
    ]

-- an access to a cell that follows a scan is of the word of an item
part_time :
    (shape : Shape) (n : ℕ) (o : Outcome) (before : List Made) (x : Made) (after : List Made) (j d : ℕ) (v : Bool) →
    word_part P shape n o ≡ before ++ x ∷ after → access_of x ≡ begins.Write (Cell j d) v → WordOf shape n j d (length before) (items_of o)
part_time shape n o before x after j d v e f = grind (arith, word_of, none_in_nil, only_one)

-- no access to a cell is among accesses that write to none
none_behind :
    (behind before : List Made) (x : Made) (after : List Made) (j d : ℕ) (v : Bool) → to_cell j behind ≡ [] →
    behind ≡ before ++ x ∷ after → access_of x ≡ begins.Write (Cell j d) v → ⊥
none_behind behind before x after j d v none e f = grind (arith, to_cell-there j before x after d v f)

-- each access to a cell is of the word of a put
pub cell_time :
    (shape : Shape) (c : Count) (looks : List Look) (behind before : List Made) (x : Made) (after : List Made) (j d : ℕ) (v : Bool) → to_cell j behind ≡ [] →
    look_accesses P shape c looks behind ≡ before ++ x ∷ after → access_of x ≡ begins.Write (Cell j d) v → CellTime shape looks c j d (2 * length before)
cell_time shape c [] behind before x after j d v none e f = absurd (none_behind behind before x after j d v none e f)
cell_time shape c (l ∷ looks) behind before x after j d v none e f =
    let us : List Made = scan_phrase (row_read_by P) l.seen in
    let ws : List Made = word_part P shape c.number l.outcome in
    let cs : List Made = count_part P shape c l.outcome in
    let next : Count = after_look shape c l.outcome in
    let rest : List Made = look_accesses P shape next looks behind in
    elim (where_in us (ws ++ (cs ++ rest)) before x after e) [
      | inl (r, us_is, after_is) ↦ absurd (none_there us before x r j d v (no_cells-scan l.seen) us_is f)
      | inr (more, before_is, vs_is) ↦ elim (where_in ws (cs ++ rest) more x after vs_is) [
        | inl (r, ws_is, after_is) ↦ (
            let q = part_time shape c.number l.outcome more x r j d v ws_is f in
            let numbers : c.number + (0 + q.index) ≡ c.number + q.index = omega arith in
            record {
              start = 0;
              number = 0;
              index = q.index;
              put = span_of P shape c l;
              item = q.item;
              stands = inl (refl, refl, refl);
              stored = q.stored;
              same_cell = ap (λ k. k % capacity_of shape) numbers ∙ q.same_cell;
              place_is = omega (arith, ap length before_is, length-append us more, q.place_is);
              within = q.within;
            })
        | inr (more', more_is, vs_is') ↦ elim (where_in cs rest more' x after vs_is') [
          | inl (r, cs_is, after_is) ↦ absurd (none_there cs more' x r j d v (no_cells-count shape c l.outcome) cs_is f)
          | inr (more'', more_is', vs_is'') ↦ (
              let r : CellTime shape looks next j d (2 * length more'') = cell_time shape next looks behind more'' x after j d v none vs_is'' f in
              let numbers : c.number + (counts l.outcome + r.number + r.index) ≡ next.number + (r.number + r.index) = omega (arith, after_counts c.number l.outcome) in
              record {
                start = whole (span_of P shape c l) + r.start;
                number = counts l.outcome + r.number;
                index = r.index;
                put = r.put;
                item = r.item;
                stands = inr (r.start, r.number, refl, refl, r.stands);
                stored = r.stored;
                same_cell = ap (λ k. k % capacity_of shape) numbers ∙ r.same_cell;
                place_is = omega (
                  arith,
                  r.place_is,
                  ap length before_is,
                  length-append us more,
                  ap length more_is,
                  length-append ws more',
                  ap length more_is',
                  length-append cs more'',
                );
                within = r.within;
              })
        ]
      ]
    ]

-- ---- from a put to its accesses

-- the accesses before the word of an item, how many words of its cell they have, and the item among those of the cell
pub record WordTime (shape : Shape) (looks : List Look) (behind : List Made) (c : Count) (j item place : ℕ) : Type 0 where
  pub front : List Made
  pub back : List Made
  pub nth : ℕ
  pub is : look_accesses P shape c looks behind ≡ front ++ (word_write (width_of shape) j item ++ back)
  pub place_is : 2 * length front ≡ place
  pub written : length (to_cell j front) ≡ nth * width_of shape
  pub listed : slice_get (cell_items shape j c.number looks) nth ≡ Some item

-- the same within the words of one look
pub record WordIn (shape : Shape) (n : ℕ) (items : List ℕ) (j index item : ℕ) : Type 0 where
  pub front : List Made
  pub back : List Made
  pub nth : ℕ
  pub is : words_phrase shape n items ≡ front ++ (word_write (width_of shape) j item ++ back)
  pub place_is : length front ≡ index * width_of shape
  pub written : length (to_cell j front) ≡ nth * width_of shape
  pub listed : slice_get (stored_to shape j n items) nth ≡ Some item

pub word_in :
    (shape : Shape) (n : ℕ) (items : List ℕ) (j index item : ℕ) → slice_get items index ≡ Some item → (n + index) % capacity_of shape ≡ j →
    WordIn shape n items j index item
word_in shape n [] j index item e f = absurd (cc)
word_in shape n (x ∷ items) j zero item e f =
    let none : n + 0 ≡ n = omega arith in
    let cells : n % capacity_of shape ≡ j = ap (λ k. k % capacity_of shape) (sym none) ∙ f in
    let same : x ≡ item = cc in
    let rest : List Made = words_phrase shape (suc n) items in
    let own : nat_eq j (n % capacity_of shape) ≡ true = eq-eqb j (n % capacity_of shape) (sym cells) in
    record {
      front = [];
      back = rest;
      nth = 0;
      is = ap (λ k. word_write (width_of shape) k x ++ rest) cells ∙ ap (λ y. word_write (width_of shape) j y ++ rest) same;
      place_is = omega arith;
      written = omega arith;
      listed = ap (λ b. slice_get (cond b (x ∷ []) [] ++ stored_to shape j (suc n) items) 0) own ∙ ap Some same;
    }
word_in shape n (x ∷ items) j (suc index) item e f =
    let numbers : suc n + index ≡ n + suc index = omega arith in
    let r = word_in shape (suc n) items j index item e (ap (λ k. k % capacity_of shape) numbers ∙ f) in
    let w : ℕ = width_of shape in
    let cell : ℕ = n % capacity_of shape in
    let word : List Made = word_write w cell x in
    let here : List ℕ = cond (nat_eq j cell) (x ∷ []) [] in
    record {
      front = word ++ r.front;
      back = r.back;
      nth = length here + r.nth;
      is = ap (λ z. word ++ z) r.is ∙ sym (append_assoc word r.front (word_write w j item ++ r.back));
      place_is = omega (arith, length-append word r.front, length-word_write w cell x, r.place_is, suc-mul index w);
      written = omega (
        arith,
        ap length (to_cell-append j word r.front),
        length-append (to_cell j word) (to_cell j r.front),
        ap length (word_to_cell shape j n x (nat_eq j cell) refl),
        length-word_writes w here,
        r.written,
        add-mul (length here) r.nth w,
      );
      listed = slice_get-behind here (stored_to shape j (suc n) items) r.nth ∙ r.listed;
    }

-- the words that follow a scan
word_part_in :
    (shape : Shape) (n : ℕ) (o : Outcome) (j index item : ℕ) → slice_get (items_of o) index ≡ Some item → (n + index) % capacity_of shape ≡ j →
    (r : WordIn shape n (items_of o) j index item) × (word_part P shape n o ≡ words_phrase shape n (items_of o)) ×
    (items_here shape j n o ≡ stored_to shape j n (items_of o))
word_part_in shape n o j index item e f = grind (arith, word_in)

-- four lists, one after the other
past_three : (a b c r t : List Made) → a ++ (b ++ (c ++ (r ++ t))) ≡ (a ++ (b ++ (c ++ r))) ++ t
past_three a b c r t = sym (append_assoc a (b ++ (c ++ r)) t ∙ ap (λ l. a ++ l) (append_assoc b (c ++ r) t ∙ ap (λ l. b ++ l) (append_assoc c r t)))

-- each item that a put stores to the cell has its word there
pub word_time :
    (shape : Shape) (c : Count) (looks : List Look) (behind : List Made) (j start number index : ℕ) (put : Span) (item : ℕ) →
    IsSpanAt (spans P shape c looks) start number put → slice_get (items_of put.outcome) index ≡ Some item → (c.number + (number + index)) % capacity_of shape ≡ j →
    WordTime shape looks behind c j item (start + put.scan + 2 * (index * width_of shape))
word_time shape c [] behind j start number index put item st e f = elim st [ ]
word_time shape c (l ∷ looks) behind j start number index put item (inl st) e f =
    let us : List Made = scan_phrase (row_read_by P) l.seen in
    let cs : List Made = count_part P shape c l.outcome in
    let next : Count = after_look shape c l.outcome in
    let rest : List Made = look_accesses P shape next looks behind in
    let stored : slice_get (items_of l.outcome) index ≡ Some item = ap (λ (x : Span). slice_get (items_of x.outcome) index) (sym st.2) ∙ e in
    let same : c.number + index ≡ c.number + (number + index) = omega (arith, st.1) in
    let cells : (c.number + index) % capacity_of shape ≡ j = ap (λ k. k % capacity_of shape) same ∙ f in
    let (r, words, here) = word_part_in shape c.number l.outcome j index item stored cells in
    let word : List Made = word_write (width_of shape) j item in
    record {
      front = us ++ r.front;
      back = r.back ++ (cs ++ rest);
      nth = r.nth;
      is = grind (arith, append_assoc);
      place_is = omega (arith, st.0, ap (λ (x : Span). x.scan) st.2, length-append us r.front, r.place_is);
      written = omega (
        arith,
        ap length (to_cell-append j us r.front),
        length-append (to_cell j us) (to_cell j r.front),
        ap length (none_to_cell j us (no_cells-scan l.seen)),
        r.written,
      );
      listed = slice_get-append (items_here shape j c.number l.outcome) (cell_items shape j next.number looks) r.nth item
          (ap (λ z. slice_get z r.nth) here ∙ r.listed);
    }
word_time shape c (l ∷ looks) behind j start number index put item (inr st) e f =
    let us : List Made = scan_phrase (row_read_by P) l.seen in
    let ws : List Made = word_part P shape c.number l.outcome in
    let cs : List Made = count_part P shape c l.outcome in
    let next : Count = after_look shape c l.outcome in
    let numbers : next.number + (st.1 + index) ≡ c.number + (number + index) = omega (arith, st.3, after_counts c.number l.outcome) in
    let r : WordTime shape looks behind next j item (st.0 + put.scan + 2 * (index * width_of shape)) =
    word_time shape next looks behind j st.0 st.1 index put item st.4 e (ap (λ k. k % capacity_of shape) numbers ∙ f) in
    let here : List ℕ = items_here shape j c.number l.outcome in
    let word : List Made = word_write (width_of shape) j item in
    record {
      front = us ++ (ws ++ (cs ++ r.front));
      back = r.back;
      nth = length here + r.nth;
      is = ap (λ z. us ++ (ws ++ (cs ++ z))) r.is ∙ past_three us ws cs r.front (word ++ r.back);
      place_is = omega (arith, r.place_is, st.2, length-append us (ws ++ (cs ++ r.front)), length-append ws (cs ++ r.front), length-append cs r.front);
      written = omega (
        arith,
        ap length (look_to_cell shape j c l r.front),
        length-append (word_writes (width_of shape) here) (to_cell j r.front),
        length-word_writes (width_of shape) here,
        r.written,
        add-mul (length here) r.nth (width_of shape),
      );
      listed = slice_get-behind here (cell_items shape j next.number looks) r.nth ∙ r.listed;
    }

-- the write of digit d of the word, after this many writes to the cell
pub record DigitTime (all : List Made) (j d item place count : ℕ) : Type 0 where
  pub before : List Made
  pub after : List Made
  pub is : all ≡ before ++ Write (Cell j d) (digit d item) ∷ after
  pub place_is : 2 * length before ≡ place + 2 * d
  pub written : length (to_cell j before) ≡ count + d

-- each digit of a word is written there
pub digit_time :
    (width : ℕ) (all front back : List Made) (j item place count d : ℕ) → all ≡ front ++ (word_write width j item ++ back) →
    2 * length front ≡ place → length (to_cell j front) ≡ count → d < width → DigitTime all j d item place count
digit_time width all front back j item place count d is place_is written l =
    let (more, digits) = digits_split item d width l in
    let done : List Made = writes_in (Cell j) (digit_writes item d) in
    let x : Made = Write (Cell j d) (digit d item) in
    let ws : List Made = writes_in (Cell j) more in
    let word : word_write width j item ≡ done ++ x ∷ ws = grind (arith, map-append) in
    record {
      before = front ++ done;
      after = ws ++ back;
      is = is ∙ ap (λ z. front ++ (z ++ back)) word ∙ ap (λ z. front ++ z) (append_assoc done (x ∷ ws) back) ∙ sym (append_assoc front done (x ∷ (ws ++ back)));
      place_is = grind (arith, place_is, length-append front done, length-word_write);
      written = omega (
        arith,
        written,
        ap length (to_cell-append j front done),
        length-append (to_cell j front) (to_cell j done),
        ap length (own_cell j (digit_writes item d)),
        length-digit_writes item d,
      );
    }

-- ---- words of both sides

-- a span that counts items has two events for each digit of their words
pub word_events :
    (s : Side) (shape : Shape) (c : Count) (looks : List Look) (start number : ℕ) (x : Span) →
    IsSpanAt (spans s shape c looks) start number x → 1 ≤ counts x.outcome → x.word ≡ 2 * (counts x.outcome * width_of shape)
word_events s shape c [] start number x st e = elim st [ ]
word_events s shape c (l ∷ looks) start number x (inl st) e = grind (arith, length-part)
word_events s shape c (l ∷ looks) start number x (inr st) e = word_events s shape (after_look shape c l.outcome) looks st.0 st.1 x st.4 e

-- the accesses before the word of a take
pub record ReadTime (shape : Shape) (all : List Made) (j item place : ℕ) : Type 0 where
  pub front : List Made
  pub back : List Made
  pub is : all ≡ front ++ (word_read (width_of shape) j item ++ back)
  pub place_is : 2 * length front ≡ place

-- a multiple of a doubled number
pub doubled : (i w : ℕ) → i * (2 * w) ≡ 2 * (i * w)
doubled zero w = grind arith
doubled (suc i) w = omega (arith, suc-mul i (2 * w), suc-mul i w, doubled i w)

-- the word read of an item among those of a look
pub record ReadIn (shape : Shape) (n : ℕ) (items : List ℕ) (i item : ℕ) : Type 0 where
  pub front : List Made
  pub back : List Made
  pub is : words_read shape n items ≡ front ++ (word_read (width_of shape) ((n + i) % capacity_of shape) item ++ back)
  pub long : length front ≡ i * width_of shape

read_in : (shape : Shape) (n : ℕ) (items : List ℕ) (i item : ℕ) → slice_get items i ≡ Some item → ReadIn shape n items i item
read_in shape n [] i item e = absurd (cc)
read_in shape n (x ∷ items) zero item e =
    let same : x ≡ item = cc in
    let none : 0 * width_of shape ≡ 0 = omega arith in
    record {
      front = [];
      back = words_read shape (suc n) items;
      is = grind arith;
      long = omega (arith, none);
    }
read_in shape n (x ∷ items) (suc i) item e =
    let r = read_in shape (suc n) items i item e in
    let first : List Made = word_read (width_of shape) (n % capacity_of shape) x in
    let size : suc i * width_of shape ≡ i * width_of shape + width_of shape = suc-mul i (width_of shape) in
    record {
      front = first ++ r.front;
      back = r.back;
      is = grind (arith, append_assoc);
      long = omega (arith, length-append first r.front, length-word_read (width_of shape) (n % capacity_of shape) x, r.long, size);
    }

-- each take that takes items has the word read of item number i there
pub read_time :
    (shape : Shape) (c : Count) (looks : List Look) (behind : List Made) (start number : ℕ) (x : Span) (i item : ℕ) →
    IsSpanAt (spans C shape c looks) start number x → slice_get (items_of x.outcome) i ≡ Some item →
    ReadTime shape (look_accesses C shape c looks behind) ((c.number + number + i) % capacity_of shape) item (start + x.scan + 2 * (i * width_of shape))
read_time shape c [] behind start number x i item st e = elim st [ ]
read_time shape c (l ∷ looks) behind start number x i item (inl st) e =
    let us : List Made = scan_phrase (row_read_by C) l.seen in
    let cs : List Made = count_part C shape c l.outcome in
    let rest : List Made = look_accesses C shape (after_look shape c l.outcome) looks behind in
    let at : slice_get (items_of l.outcome) i ≡ Some item = sym (ap (λ (y : Span). slice_get (items_of y.outcome) i) st.2) ∙ e in
    let same : c.number + i ≡ c.number + number + i = omega (arith, st.1) in
    let r = read_in shape c.number (items_of l.outcome) i item at in
    let word : List Made = word_read (width_of shape) ((c.number + number + i) % capacity_of shape) item in
    record {
      front = us ++ r.front;
      back = r.back ++ (cs ++ rest);
      is = grind (arith, append_assoc);
      place_is = omega (arith, st.0, ap (λ (y : Span). y.scan) st.2, r.long, length-append us r.front);
    }
read_time shape c (l ∷ looks) behind start number x i item (inr st) e =
    let cs : List Made = count_part C shape c l.outcome in
    let next : Count = after_look shape c l.outcome in
    let numbers : next.number + st.1 + i ≡ c.number + number + i = omega (arith, st.3, after_counts c.number l.outcome) in
    grind (arith, past_three, length-append, read_time shape next looks behind st.0 st.1 x i item st.4 e)
