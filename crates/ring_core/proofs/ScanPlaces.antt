-- A scan among the accesses of a program is that of a look.
use Rattle.std.proofs.Common.{◌≡◌, inl, inr, ℕ, zero, suc, ◌+◌, ◌*◌, Bool, true, false, List, [], ◌∷◌, ◌++◌, length, refl, sym, ap, ◌∙◌, arith, length-append, append-nil}
use Rattle.ring_core.proofs.Common.{Side, P, C, Bit, X, Cell, Shape, Count, count_bits, words_phrase, close_phrase, scan_events}
use Rattle.bits_core.specs.Made.{Made, Read}
use Rattle.register_core.specs.Phrases.{RowWrite, row_bit, writes_in, digit_reads, zero_reads, scan_phrase, row_read_by}
use Rattle.ring_core.proofs.Readings.Parts.{NoneAre, none-append, behind, never}
use Rattle.ring_core.proofs.Readings.Phrases.{scan-front, scan_begins, same_scan}
use Rattle.ring_core.proofs.OverSpans.Spans.{Span, Outcome, Passes, Stops, Asks, counts, IsSpanAt}
use Rattle.ring_core.proofs.OverSpans.LookSpans.{Look, words_read, word_part, count_part, after_look, look_accesses, span_of, spans}

-- ---- accesses with which no scan begins

-- the access reads the first bit of the row that a side scans
abbrev IsFirst : Side → Made → Type 0
IsFirst s x = (v : Bool) × (x ≡ Read (row_read_by s 0) v)

abbrev NoneFirst : Side → List Made → Type 0
NoneFirst s = NoneAre (IsFirst s)

-- the row's other bits
not_next : (s : Side) (i : ℕ) (u : Bool) → IsFirst s (Read (row_read_by s (suc i)) u) → ⊥
not_next s i u h1 = grind arith

none-zeros : (s : Side) (n : ℕ) → NoneFirst s (zero_reads (λ i. row_read_by s (suc i)) n)
none-zeros s zero = tt
none-zeros s (suc n) = none-append (IsFirst s) (zero_reads (λ i. row_read_by s (suc i)) n) (Read (row_read_by s (suc n)) false ∷ []) (none-zeros s n) (not_next s n false, tt)

-- the reads of a scan after its first
abbrev behind_first : (ℕ → Bit) → ℕ → List Made
behind_first row zero = []
behind_first row (suc c) = scan_phrase (λ i. row (suc i)) c

scan_splits : (row : ℕ → Bit) (c : ℕ) → (v : Bool) × (scan_phrase row c ≡ Read (row 0) v ∷ behind_first row c)
scan_splits row zero = (true, refl)
scan_splits row (suc c) = (false, scan-front row c)

none-behind : (s : Side) (c : ℕ) → NoneFirst s (behind_first (row_read_by s) c)
none-behind s zero = tt
none-behind s (suc c) = search (arith, none-append, none-zeros, not_next)

-- words, counts and the close bit
none-writes : (s : Side) (row : ℕ → Bit) (writes : List RowWrite) → NoneFirst s (writes_in row writes)
none-writes s row [] = tt
none-writes s row (w ∷ writes) = ((λ (v, e). absurd (cc)), none-writes s row writes)

none-words : (s : Side) (shape : Shape) (n : ℕ) (items : List ℕ) → NoneFirst s (words_phrase shape n items)
none-words s shape n [] = tt
none-words s shape n (item ∷ items) = search (arith, none-append, none-writes, none-words s shape (suc n) items)

not_cell : (s : Side) (j i : ℕ) (u : Bool) → IsFirst s (Read (Cell j i) u) → ⊥
not_cell s j i u h1 = grind arith

not_close : (s : Side) (u : Bool) → IsFirst s (Read X u) → ⊥
not_close s u h1 = grind arith

none-digits : (s : Side) (j item n : ℕ) → NoneFirst s (digit_reads j item n)
none-digits s j item zero = tt
none-digits s j item (suc n) = grind (arith, none-append, not_cell, none-digits s j item n)

none-words_read : (s : Side) (shape : Shape) (n : ℕ) (items : List ℕ) → NoneFirst s (words_read shape n items)
none-words_read s shape n [] = tt
none-words_read s shape n (item ∷ items) = search (arith, none-append, none-digits, none-words_read s shape (suc n) items)

none-word_part : (s : Side) (shape : Shape) (n : ℕ) (o : Outcome) → NoneFirst s (word_part s shape n o)
none-word_part P shape n (Passes items) = none-words P shape n items
none-word_part C shape n (Passes items) = none-words_read C shape n items
none-word_part s shape n Stops = grind arith
none-word_part s shape n (Asks answer) = grind (arith, not_close)

none-count_part : (s : Side) (shape : Shape) (c : Count) (o : Outcome) → NoneFirst s (count_part s shape c o)
none-count_part s shape c (Passes items) = none-writes s (row_bit s) (count_bits shape c items)
none-count_part s shape c Stops = tt
none-count_part s shape c (Asks answer) = tt

pub none-close : (s : Side) (closes : Bool) → NoneAre (IsFirst s) (close_phrase closes)
none-close s closes = grind arith

-- ---- the look

-- the span of the look whose scan begins with this one of the side's own events
pub record ScanSpan (s : Side) (xs : List Span) (start seen : ℕ) : Type 0 where
  pub number : ℕ
  pub span : Span
  pub stands : IsSpanAt xs start number span
  pub seen_is : span.seen ≡ seen
  pub scan_is : span.scan ≡ scan_events s seen

pub scan_there :
    (s : Side) (shape : Shape) (c : Count) (looks : List Look) (tail : List Made) → NoneAre (IsFirst s) tail → (before after : List Made) (seen : ℕ) →
    look_accesses s shape c looks tail ≡ before ++ (scan_phrase (row_read_by s) seen ++ after) → ScanSpan s (spans s shape c looks) (2 * length before) seen
scan_there s shape c [] tail none before after seen e = grind (arith, behind, never, scan_begins (row_read_by s) seen after, append-nil tail)
scan_there s shape c (l ∷ looks) tail none [] after seen e =
    let (same, left) = same_scan (row_read_by s) l.seen seen _ after e in
    record { number = 0; span = span_of s shape c l; stands = inl (refl, refl, refl); seen_is = same; scan_is = ap (scan_events s) same }
scan_there s shape c (l ∷ looks) tail none (x ∷ before) after seen e =
    let next : Count = after_look shape c l.outcome in
    let reads : List Made = behind_first (row_read_by s) l.seen in
    let word : List Made = word_part s shape c.number l.outcome in
    let count : List Made = count_part s shape c l.outcome in
    let later : List Made = look_accesses s shape next looks tail in
    let (u, head) = scan_splits (row_read_by s) l.seen in
    let (v, rest, f) = scan_begins (row_read_by s) seen after in
    let z : Made = Read (row_read_by s 0) v in
    let g : reads ++ (word ++ (count ++ later)) ≡ before ++ (scan_phrase (row_read_by s) seen ++ after) = cc in
    let (a, a_is, a_left) = behind (IsFirst s) reads (word ++ (count ++ later)) before rest z (v, refl) (none-behind s l.seen) (g ∙ ap (λ l. before ++ l) f) in
    let (b, b_is, b_left) = behind (IsFirst s) word (count ++ later) a rest z (v, refl) (none-word_part s shape c.number l.outcome) a_left in
    let (d, d_is, d_left) = behind (IsFirst s) count later b rest z (v, refl) (none-count_part s shape c l.outcome) b_left in
    let r = scan_there s shape next looks tail none d after seen (d_left ∙ ap (λ l. d ++ l) (sym f)) in
    record {
      number = counts l.outcome + r.number;
      span = r.span;
      stands = inr (
        2 * length d,
        r.number,
        omega (arith, ap length head, ap length a_is, length-append reads a, ap length b_is, length-append word b, ap length d_is, length-append count d),
        refl,
        r.stands,
      );
      seen_is = r.seen_is;
      scan_is = r.scan_is;
    }
