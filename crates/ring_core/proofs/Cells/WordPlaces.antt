-- A word among the accesses of a program is that of an item of a look.
use Rattle.std.proofs.Common.{◌≡◌, ◌⊎◌, inl, inr, ℕ, zero, suc, ◌+◌, ◌*◌, ◌%◌, ◌<◌, Bool, true, false, Some, List, [], ◌∷◌, ◌++◌, length, refl, sym, ap, ◌∙◌, arith, length-append, append-nil, append_assoc}
use Rattle.std.specs.Prelude.{slice_get}
use Rattle.ring_core.proofs.Common.{suc-mul, Side, P, C, Bit, X, Cell, Shape, capacity_of, width_of, Count, count_bits, words_phrase, close_phrase}
use Rattle.bits_core.specs.Made.{Made, Read, Write}
use Rattle.register_core.specs.Phrases.{RowWrite, row_bit, writes_in, digit, word_read, word_write, zero_reads, scan_phrase, row_read_by}
use Rattle.ring_core.proofs.Readings.Parts.{NoneAre, none-append, behind, never}
use Rattle.ring_core.proofs.OverSpans.Spans.{Span, Outcome, Passes, Stops, Asks, counts, whole, IsSpanAt}
use Rattle.ring_core.proofs.OverSpans.LookSpans.{Look, words_read, word_part, count_part, after_look, look_accesses, span_of, spans}
use Rattle.ring_core.proofs.OverSpans.Looks.{after_counts}

-- ---- words, from the first digit on

-- a side's access to a digit of a cell: the producer writes it, and the consumer reads it
abbrev digit_access : Side → ℕ → ℕ → Bool → Made
digit_access P j i v = Write (Cell j i) v
digit_access C j i v = Read (Cell j i) v

-- the first access of a word
abbrev IsFirst : Side → Made → Type 0
IsFirst s x = (j : ℕ) × (v : Bool) × (x ≡ digit_access s j 0 v)

-- the word of an item
abbrev pub word_of : Side → ℕ → ℕ → ℕ → List Made
word_of P width j item = word_write width j item
word_of C width j item = word_read width j item

not_later : (s : Side) (j i : ℕ) (v : Bool) → IsFirst s (digit_access s j (suc i) v) → ⊥
not_later s j i v h1 = grind arith

pub writes-append : (row : ℕ → Bit) (xs ys : List RowWrite) → writes_in row (xs ++ ys) ≡ writes_in row xs ++ writes_in row ys
writes-append row [] ys = refl
writes-append row (x ∷ xs) ys = ap (λ l. Write (row x.bit) x.value ∷ l) (writes-append row xs ys)

digit_last : (s : Side) (w j item : ℕ) → word_of s (suc w) j item ≡ word_of s w j item ++ digit_access s j w (digit w item) ∷ []
digit_last s w j item = grind (arith, writes-append)

-- what follows the first digit
record Front (s : Side) (w j item : ℕ) : Type 0 where
  pub tail : List Made
  pub is : word_of s w j item ≡ digit_access s j 0 (digit 0 item) ∷ tail
  pub none : NoneAre (IsFirst s) tail
  pub long : suc (length tail) ≡ w

front_of : (s : Side) (w j item : ℕ) → Front s (suc w) j item
front_of s zero j item = grind arith
front_of s (suc w) j item = grind (arith, digit_last s (suc w) j item, none-append, not_later s j w (digit (suc w) item), length-append, front_of s w j item)

some_digits : (s : Side) (w j item : ℕ) → 0 < w → Front s w j item
some_digits s zero j item l = absurd (omega (arith, l))
some_digits s (suc w) j item l = front_of s w j item

-- ---- the words of items, one after the other

abbrev words_of : Side → Shape → ℕ → List ℕ → List Made
words_of P shape n items = words_phrase shape n items
words_of C shape n items = words_read shape n items

-- the item whose word begins there
record ItemAt (s : Side) (shape : Shape) (n : ℕ) (items : List ℕ) (before rest : List Made) (cell : ℕ) (v : Bool) : Type 0 where
  pub index : ℕ
  pub item : ℕ
  pub listed : slice_get items index ≡ Some item
  pub cell_is : (n + index) % capacity_of shape ≡ cell
  pub long : length before ≡ index * width_of shape
  pub after : List Made
  pub there : digit_access s cell 0 v ∷ rest ≡ word_of s (width_of shape) cell item ++ after

abbrev IsBehind : List Made → List Made → List Made → Made → List Made → Type 0
IsBehind xs more before z rest = (front : List Made) × (before ≡ xs ++ front) × (more ≡ front ++ z ∷ rest)

item_there :
    (s : Side) (shape : Shape) (n : ℕ) (items : List ℕ) (more before rest : List Made) (cell : ℕ) (v : Bool) →
    words_of s shape n items ++ more ≡ before ++ digit_access s cell 0 v ∷ rest →
    ItemAt s shape n items before rest cell v ⊎ IsBehind (words_of s shape n items) more before (digit_access s cell 0 v) rest
item_there s shape n [] more before rest cell v e = search arith
item_there s shape n (item ∷ items) more [] rest cell v e =
    let w : ℕ = width_of shape in
    let j : ℕ = n % capacity_of shape in
    let later : List Made = words_of s shape (suc n) items ++ more in
    let r = some_digits s w j item shape.has_digits in
    let joined : word_of s w j item ++ later ≡ digit_access s cell 0 v ∷ rest = grind (arith, append_assoc) in
    let first : digit_access s j 0 (digit 0 item) ∷ (r.tail ++ later) ≡ digit_access s cell 0 v ∷ rest = sym (ap (λ l. l ++ later) r.is) ∙ joined in
    let heads : digit_access s j 0 (digit 0 item) ≡ digit_access s cell 0 v = cc in
    let number : n + 0 ≡ n = omega arith in
    grind arith
item_there s shape n (item ∷ items) more (y ∷ before) rest cell v e =
    let w : ℕ = width_of shape in
    let j : ℕ = n % capacity_of shape in
    let word : List Made = word_of s w j item in
    let words : List Made = words_of s shape (suc n) items in
    let z : Made = digit_access s cell 0 v in
    let r = some_digits s w j item shape.has_digits in
    let joined : word ++ (words ++ more) ≡ y ∷ (before ++ z ∷ rest) = sym (append_assoc word words more) ∙ ap (λ l. l ++ more) (sym (grind arith)) ∙ e in
    let later : r.tail ++ (words ++ more) ≡ before ++ z ∷ rest = cc in
    let (a, a_is, a_left) = behind (IsFirst s) r.tail (words ++ more) before rest z (cell, v, refl) r.none later in
    let front : y ∷ before ≡ digit_access s j 0 (digit 0 item) ∷ (r.tail ++ a) = cc in
    let word_is : y ∷ before ≡ word ++ a = front ∙ ap (λ l. l ++ a) (sym r.is) in
    elim (item_there s shape (suc n) items more a rest cell v a_left) [
      | inl q ↦
          let number : n + suc q.index ≡ suc n + q.index = omega arith in
          inl (record {
            index = suc q.index;
            item = q.item;
            listed = q.listed;
            cell_is = ap (λ k. k % capacity_of shape) number ∙ q.cell_is;
            long = omega (arith, ap length word_is, length-append word a, ap length r.is, r.long, q.long, suc-mul q.index w);
            after = q.after;
            there = q.there;
          })
      | inr (b, b_is, left) ↦ grind (arith, append_assoc)
    ]

-- ---- accesses with which no word begins

none-zeros : (s : Side) (n : ℕ) → NoneAre (IsFirst s) (zero_reads (row_read_by s) n)
none-zeros s zero = tt
none-zeros s (suc n) = none-append (IsFirst s) (zero_reads (row_read_by s) n) (Read (row_read_by s n) false ∷ []) (none-zeros s n) (grind arith)

none-scan : (s : Side) (c : ℕ) → NoneAre (IsFirst s) (scan_phrase (row_read_by s) c)
none-scan s c = none-append (IsFirst s) (zero_reads (row_read_by s) c) (Read (row_read_by s c) true ∷ []) (none-zeros s c) (grind arith)

not_count : (s : Side) (i : ℕ) (u : Bool) → IsFirst s (Write (row_bit s i) u) → ⊥
not_count s i u h1 = grind arith

none-count : (s : Side) (writes : List RowWrite) → NoneAre (IsFirst s) (writes_in (row_bit s) writes)
none-count s [] = tt
none-count s (w ∷ writes) = (not_count s w.bit w.value, none-count s writes)

none-count_part : (s : Side) (shape : Shape) (c : Count) (o : Outcome) → NoneAre (IsFirst s) (count_part s shape c o)
none-count_part s shape c (Passes items) = none-count s (count_bits shape c items)
none-count_part s shape c Stops = tt
none-count_part s shape c (Asks answer) = tt

not_close : (s : Side) (u : Bool) → IsFirst s (Read X u) → ⊥
not_close s u h1 = grind arith

pub none-close : (s : Side) (closes : Bool) → NoneAre (IsFirst s) (close_phrase closes)
none-close s closes = grind arith

-- ---- the word of a look

record InOutcome (s : Side) (shape : Shape) (n : ℕ) (o : Outcome) (before rest : List Made) (cell : ℕ) (v : Bool) : Type 0 where
  pub items : List ℕ
  pub outcome_is : o ≡ Passes items
  pub at : ItemAt s shape n items before rest cell v

part_there :
    (s : Side) (shape : Shape) (n : ℕ) (o : Outcome) (more before rest : List Made) (cell : ℕ) (v : Bool) →
    word_part s shape n o ++ more ≡ before ++ digit_access s cell 0 v ∷ rest →
    InOutcome s shape n o before rest cell v ⊎ IsBehind (word_part s shape n o) more before (digit_access s cell 0 v) rest
part_there P shape n (Passes items) more before rest cell v e = grind (arith, item_there P shape n items more before rest cell v e)
part_there C shape n (Passes items) more before rest cell v e = grind (arith, item_there C shape n items more before rest cell v e)
part_there P shape n Stops more before rest cell v e = inr (before, refl, e)
part_there C shape n Stops more before rest cell v e = inr (before, refl, e)
part_there P shape n (Asks answer) more before rest cell v e =
    inr (behind (IsFirst P) (Read X answer ∷ []) more before rest (digit_access P cell 0 v) (cell, v, refl) (not_close P answer, tt) e)
part_there C shape n (Asks answer) more before rest cell v e =
    inr (behind (IsFirst C) (Read X answer ∷ []) more before rest (digit_access C cell 0 v) (cell, v, refl) (not_close C answer, tt) e)

-- the span of the look, and which of its items
pub record WordSpan (s : Side) (shape : Shape) (n : ℕ) (xs : List Span) (before whole_rest : List Made) (cell : ℕ) : Type 0 where
  pub start : ℕ
  pub number : ℕ
  pub span : Span
  pub stands : IsSpanAt xs start number span
  pub items : List ℕ
  pub outcome_is : span.outcome ≡ Passes items
  pub index : ℕ
  pub item : ℕ
  pub listed : slice_get items index ≡ Some item
  pub cell_is : (n + number + index) % capacity_of shape ≡ cell
  pub place : 2 * length before ≡ start + span.scan + 2 * (index * width_of shape)
  pub after : List Made
  pub there : whole_rest ≡ word_of s (width_of shape) cell item ++ after

word_from :
    (s : Side) (shape : Shape) (c : Count) (looks : List Look) (tail : List Made) → NoneAre (IsFirst s) tail → (before rest : List Made) (cell : ℕ) (v : Bool) →
    look_accesses s shape c looks tail ≡ before ++ digit_access s cell 0 v ∷ rest →
    WordSpan s shape c.number (spans s shape c looks) before (digit_access s cell 0 v ∷ rest) cell
word_from s shape c [] tail none before rest cell v e = grind (arith, behind (IsFirst s) tail, append-nil tail, never)
word_from s shape c (l ∷ looks) tail none before rest cell v e =
    let next : Count = after_look shape c l.outcome in
    let z : Made = digit_access s cell 0 v in
    let scan : List Made = scan_phrase (row_read_by s) l.seen in
    let word : List Made = word_part s shape c.number l.outcome in
    let count : List Made = count_part s shape c l.outcome in
    let later : List Made = look_accesses s shape next looks tail in
    let (a, a_is, a_left) = behind (IsFirst s) scan (word ++ (count ++ later)) before rest z (cell, v, refl) (none-scan s l.seen) e in
    elim (part_there s shape c.number l.outcome (count ++ later) a rest cell v a_left) [
      | inl r ↦
          let number : c.number + 0 + r.at.index ≡ c.number + r.at.index = omega arith in
          record {
            start = 0;
            number = 0;
            span = span_of s shape c l;
            stands = inl (refl, refl, refl);
            items = r.items;
            outcome_is = r.outcome_is;
            index = r.at.index;
            item = r.at.item;
            listed = r.at.listed;
            cell_is = ap (λ k. k % capacity_of shape) number ∙ r.at.cell_is;
            place = omega (arith, ap length a_is, length-append scan a, r.at.long);
            after = r.at.after;
            there = r.at.there;
          }
      | inr (b, b_is, b_left) ↦
          let (d, d_is, d_left) = behind (IsFirst s) count later b rest z (cell, v, refl) (none-count_part s shape c l.outcome) b_left in
          let r = word_from s shape next looks tail none d rest cell v d_left in
          let number : c.number + (counts l.outcome + r.number) + r.index ≡ next.number + r.number + r.index = omega (arith, after_counts c.number l.outcome) in
          record {
            start = whole (span_of s shape c l) + r.start;
            number = counts l.outcome + r.number;
            span = r.span;
            stands = inr (r.start, r.number, refl, refl, r.stands);
            items = r.items;
            outcome_is = r.outcome_is;
            index = r.index;
            item = r.item;
            listed = r.listed;
            cell_is = ap (λ k. k % capacity_of shape) number ∙ r.cell_is;
            place = omega (arith, ap length a_is, length-append scan a, ap length b_is, length-append word b, ap length d_is, length-append count d, r.place);
            after = r.after;
            there = r.there;
          }
    ]

-- a word that is there is that of an item
pub word_there :
    (s : Side) (shape : Shape) (c : Count) (looks : List Look) (tail : List Made) → NoneAre (IsFirst s) tail → (before after : List Made) (cell item : ℕ) →
    look_accesses s shape c looks tail ≡ before ++ (word_of s (width_of shape) cell item ++ after) →
    WordSpan s shape c.number (spans s shape c looks) before (word_of s (width_of shape) cell item ++ after) cell
word_there s shape c looks tail none before after cell item e = grind (arith, some_digits s (width_of shape) cell item shape.has_digits, spans s shape c looks, word_from)
