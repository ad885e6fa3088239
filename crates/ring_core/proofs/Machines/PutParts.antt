-- What a producer may do next, by how far its put under way has come.
use Rattle.std.proofs.Common.{◌≡◌, ◌⊎◌, inl, inr, ℕ, zero, suc, ◌+◌, ◌%◌, ◌<◌, ◌≤◌, Bool, true, false, List, [], ◌∷◌, ◌++◌, length, refl, sym, ap, subst, ◌∙◌, arith, append_assoc, append-nil, length-append}
use Rattle.ring_core.proofs.Common.{append_cancel_left, map-append, P, Bit, R, X, Cell, Shape, AllFit, capacity_of, modulus_of, width_of, batch_of, LeavesRoom, LeavesRoomFor, number_past, Count}
use Rattle.ring_core.proofs.Common.{first_count, count_bits, batch_phrase, IsCount}
use Rattle.bits_core.specs.Made.{Made, Read, Write}
use Rattle.register_core.specs.Row.{RowWrite, row_bit, writes_in}
use Rattle.register_core.specs.Word.{digit, digit_writes, word_write}
use Rattle.register_core.specs.ScanState.{zero_reads, scan_phrase, row_read_by}
use Rattle.ring_core.specs.Puts.{Put, Stored, Full, stored_after, words_phrase, put_phrase, put_phrases, close_phrase, IsBatch, IsPut, ArePuts}
use Rattle.ring_core.specs.PutParts.{GoesBehind, count_behind, count_access, ScansOrCloses, ScansOn, StoresOrCounts, StoresOn, CountsOn}
use Rattle.ring_core.specs.GoingOn.{LastPutsReadOne}
use Rattle.ring_core.proofs.Readings.Phrases.{scan-front, scan_begins, same_scan, same_word_write, same_writes, length-digit_writes, digits_split}
use Rattle.ring_core.proofs.Readings.PutsRead.{no_close, puts_stored, puts_full, no_room, NoCellFirst, count_first, words_first, digits_first, word_first}
use Rattle.ring_core.proofs.CountRow.{batch_below, first_is_count, bits_long}
use Rattle.ring_core.proofs.Readings.ItemsRead.{first_puts}
use Rattle.ring_core.proofs.LastBits.{AllOne, one-append, one_at, one-scan, one-writes}

-- the producer's scan that returns a count
abbrev scan : ℕ → List Made
scan c = scan_phrase (row_read_by P) c

abbrev puts_from : Shape → Count → List Put → Bool → List Made
puts_from shape c puts close = put_phrases shape c puts ++ close_phrase close

-- ---- after complete puts

-- calls from a count on
record From (shape : Shape) (c : Count) (rest : List Made) : Type 0 where
  puts : List Put
  close : Bool
  is_count : IsCount shape c
  are : ArePuts shape c.number puts
  rest_is : rest ≡ puts_from shape c puts close

from_calls : (shape : Shape) (puts : List Put) (rest : List Made) → ArePuts shape 0 puts → GoesBehind shape puts rest → From shape (count_behind shape puts) rest
from_calls shape puts rest are g = grind (arith, first_puts shape first_count puts g.calls.puts g.calls.closes rest (first_is_count shape) are g.are (sym g.program_is), first_is_count shape)

-- ---- the next access

begins_call : (shape : Shape) (c : Count) (x : Made) (rest : List Made) → From shape c (x ∷ rest) → ((v : Bool) × (x ≡ Read (row_read_by P 0) v)) ⊎ (x ≡ Write X true)
begins_call shape c x rest f = by_puts f.puts f.close f.rest_is
  where
    by_puts : (puts : List Put) (close : Bool) → x ∷ rest ≡ puts_from shape c puts close → ((v : Bool) × (x ≡ Read (row_read_by P 0) v)) ⊎ (x ≡ Write X true)
    by_puts [] false e = absurd (cc)
    by_puts [] true e = inr (cc)
    by_puts (Stored u i ∷ puts) close e =
        let begun = scan_begins (row_read_by P) u (words_phrase shape c.number i ++ (batch_phrase shape P c i ++ puts_from shape (stored_after shape c (Stored u i)) puts close)) in
        let first : x ∷ rest ≡ Read (row_read_by P 0) begun.0 ∷ begun.1 = e ∙ puts_stored shape c u i puts close ∙ begun.2 in
        inl (begun.0, cc)
    by_puts (Full u ∷ puts) close e =
        grind (arith, scan_begins (row_read_by P) u (puts_from shape c puts close), puts_full shape c u puts close)

-- a scan that has read zeros reads the next bit
zeros_front : (bit_of : ℕ → Bit) (n : ℕ) (xs : List Made) → zero_reads bit_of (suc n) ++ xs ≡ Read (bit_of 0) false ∷ (zero_reads (λ i. bit_of (suc i)) n ++ xs)
zeros_front bit_of zero xs = refl
zeros_front bit_of (suc n) xs = grind (arith, append_assoc, zeros_front bit_of n (Read (bit_of (suc n)) false ∷ xs))

scan_next :
    (bit_of : ℕ → Bit) (zeros c : ℕ) (x : Made) (xs ys : List Made) → zero_reads bit_of zeros ++ x ∷ xs ≡ scan_phrase bit_of c ++ ys →
    (v : Bool) × (x ≡ Read (bit_of zeros) v)
scan_next bit_of zero c x xs ys e = grind (arith, scan_begins bit_of c ys)
scan_next bit_of (suc zeros) zero x xs ys e = grind (arith, zeros_front bit_of zeros (x ∷ xs))
scan_next bit_of (suc zeros) (suc c) x xs ys e =
    let both : Read (bit_of 0) false ∷ (zero_reads (λ i. bit_of (suc i)) zeros ++ x ∷ xs) ≡ Read (bit_of 0) false ∷ (scan_phrase (λ i. bit_of (suc i)) c ++ ys) =
    sym (zeros_front bit_of zeros (x ∷ xs)) ∙ e ∙ ap (λ l. l ++ ys) (scan-front bit_of c) in
    scan_next (λ i. bit_of (suc i)) zeros c x xs ys (cc)

goes_on_scanning :
    (shape : Shape) (c : Count) (zeros : ℕ) (x : Made) (rest : List Made) → From shape c (zero_reads (row_read_by P) (suc zeros) ++ x ∷ rest) →
    (v : Bool) × (x ≡ Read (row_read_by P (suc zeros)) v)
goes_on_scanning shape c zeros x rest f = by_puts f.puts f.close f.rest_is
  where
    by_puts : (puts : List Put) (close : Bool) → zero_reads (row_read_by P) (suc zeros) ++ x ∷ rest ≡ puts_from shape c puts close → (v : Bool) × (x ≡ Read (row_read_by P (suc zeros)) v)
    by_puts [] false e = let clash : Read (R 0) false ∷ (zero_reads (λ i. R (suc i)) zeros ++ x ∷ rest) ≡ [] = sym (zeros_front (row_read_by P) zeros (x ∷ rest)) ∙ e in absurd (cc)
    by_puts [] true e =
        grind (arith, zeros_front (row_read_by P) zeros (x ∷ rest))
    by_puts (Stored u i ∷ puts) close e = scan_next (row_read_by P) (suc zeros) u x rest _ (e ∙ puts_stored shape c u i puts close)
    by_puts (Full u ∷ puts) close e = scan_next (row_read_by P) (suc zeros) u x rest _ (e ∙ puts_full shape c u puts close)

-- after a scan that found room comes a put that stores
record StoresFrom (shape : Shape) (c : Count) (seen : ℕ) (zs : List Made) : Type 0 where
  items : List ℕ
  behind_it : List Made
  is_count : IsCount shape c
  is_put : IsPut shape c.number (Stored seen items)
  rest_is : zs ≡ words_phrase shape c.number items ++ (batch_phrase shape P c items ++ behind_it)

stores :
    (shape : Shape) (c : Count) (seen : ℕ) (zs : List Made) → LeavesRoom shape (c.number % modulus_of shape) seen → From shape c (scan seen ++ zs) → StoresFrom shape c seen zs
stores shape c seen zs room f = by_puts f.puts f.close f.are f.rest_is
  where
    by_puts : (puts : List Put) (close : Bool) → ArePuts shape c.number puts → scan seen ++ zs ≡ puts_from shape c puts close → StoresFrom shape c seen zs
    by_puts [] close are e = absurd (no_close close (row_read_by P) seen zs (sym e))
    by_puts (Full u ∷ puts) close ((below, none), are) e = grind (arith, no_room, puts_full)
    by_puts (Stored u i ∷ puts) close (is, are) e =
        let scans = same_scan (row_read_by P) seen u zs _ (e ∙ puts_stored shape c u i puts close) in
        record {
          items = i;
          behind_it = puts_from shape (stored_after shape c (Stored u i)) puts close;
          is_count = f.is_count;
          is_put = subst (λ s. IsPut shape c.number (Stored s i)) (sym scans.0) is;
          rest_is = scans.1;
        }

-- words continue with further words, and then with something else
record WordsLeft (shape : Shape) (n : ℕ) (items all : List ℕ) (zs tail : List Made) : Type 0 where
  more : List ℕ
  all_is : all ≡ items ++ more
  fit : AllFit shape more
  rest_is : zs ≡ words_phrase shape (number_past n items) more ++ tail

words_go_on :
    (shape : Shape) (n : ℕ) (items all : List ℕ) (zs tail : List Made) → AllFit shape items → AllFit shape all → NoCellFirst tail →
    words_phrase shape n items ++ zs ≡ words_phrase shape n all ++ tail → WordsLeft shape n items all zs tail
words_go_on shape n [] all zs tail f g none e = record { more = all; all_is = refl; fit = g; rest_is = e }
words_go_on shape n (x ∷ xs) [] zs tail f g none e = absurd (words_first shape n x xs zs (λ j d v rest is. none j d v rest (sym e ∙ is)))
words_go_on shape n (x ∷ xs) (y ∷ ys) zs tail f g none e =
    let first : (x ≡ y) × (words_phrase shape (suc n) xs ++ zs ≡ words_phrase shape (suc n) ys ++ tail) = grind (arith, same_word_write, append_assoc) in
    grind (arith, words_go_on shape (suc n) xs ys zs tail f.1 g.1 none first.1)

word_next :
    (cell n w value y : ℕ) (x : Made) (rest zs : List Made) → n < w →
    writes_in (Cell cell) (digit_writes value n) ++ x ∷ rest ≡ writes_in (Cell cell) (digit_writes y w) ++ zs → (v : Bool) × (x ≡ Write (Cell cell n) v)
word_next cell n w value y x rest zs l e = grind (arith, digits_split y n w l, map-append, append_assoc, same_writes, length-digit_writes value n, length-digit_writes y n)

some_write : (ws : List RowWrite) → 1 ≤ length ws → (w : RowWrite) × (more : List RowWrite) × (ws ≡ w ∷ more)
some_write [] l = absurd (omega (arith, l))
some_write (w ∷ more) l = (w, more, refl)

-- the first access of words
first_word :
    (shape : Shape) (n y : ℕ) (ys : List ℕ) (tail : List Made) →
    (rest : List Made) × (words_phrase shape n (y ∷ ys) ++ tail ≡ Write (Cell (n % capacity_of shape) 0) (digit 0 y) ∷ rest)
first_word shape n y ys tail = grind (arith, word_first (width_of shape) (n % capacity_of shape) y (words_phrase shape (suc n) ys ++ tail) shape.has_digits, append_assoc)

-- what a put stores, after complete words
left_words :
    (shape : Shape) (c : Count) (seen : ℕ) (items : List ℕ) (zs : List Made) → AllFit shape items → (s : StoresFrom shape c seen (words_phrase shape c.number items ++ zs)) →
    WordsLeft shape c.number items s.items zs (batch_phrase shape P c s.items ++ s.behind_it)
left_words shape c seen items zs fit s = grind (arith, words_go_on, count_first)

chooses :
    (shape : Shape) (c : Count) (seen : ℕ) (items : List ℕ) (x : Made) (rest : List Made) → LeavesRoom shape (c.number % modulus_of shape) seen → AllFit shape items →
    From shape c (scan seen ++ (words_phrase shape c.number items ++ x ∷ rest)) →
    ((v : Bool) × (x ≡ Write (Cell (number_past c.number items % capacity_of shape) 0) v) ×
    LeavesRoomFor shape (c.number % modulus_of shape) seen (suc (length items)) × (suc (length items) ≤ batch_of shape)) ⊎
    ((1 ≤ length items) × (w : RowWrite) × (more : List RowWrite) × (count_bits shape c items ≡ w ∷ more) × (x ≡ count_access w))
chooses shape c seen items x rest room fit f =
    let s = stores shape c seen (words_phrase shape c.number items ++ x ∷ rest) room f in
    let left = left_words shape c seen items (x ∷ rest) fit s in
    by_more s left left.more refl
  where
    by_more :
        (s : StoresFrom shape c seen (words_phrase shape c.number items ++ x ∷ rest))
        (left : WordsLeft shape c.number items s.items (x ∷ rest) (batch_phrase shape P c s.items ++ s.behind_it)) (more : List ℕ) → left.more ≡ more →
        ((v : Bool) × (x ≡ Write (Cell (number_past c.number items % capacity_of shape) 0) v) ×
        LeavesRoomFor shape (c.number % modulus_of shape) seen (suc (length items)) × (suc (length items) ≤ batch_of shape)) ⊎
        ((1 ≤ length items) × (w : RowWrite) × (more : List RowWrite) × (count_bits shape c items ≡ w ∷ more) × (x ≡ count_access w))
    by_more s left [] e =
        let all : s.items ≡ items = left.all_is ∙ ap (λ l. items ++ l) e ∙ append-nil items in
        let is : x ∷ rest ≡ batch_phrase shape P c items ++ s.behind_it = grind arith in
        let batch : IsBatch shape items = subst (IsBatch shape) all s.is_put.2 in
        let (w, ws, bits) = some_write (count_bits shape c items) (bits_long shape c items s.is_count batch.some (omega (arith, batch.few, batch_below shape))) in
        let first : x ∷ rest ≡ count_access w ∷ (writes_in (row_bit P) ws ++ s.behind_it) = is ∙ ap (λ l. writes_in (row_bit P) l ++ s.behind_it) bits in
        inr (batch.some, w, ws, bits, cc)
    by_more s left (y ∷ ys) e =
        let tail : List Made = batch_phrase shape P c s.items ++ s.behind_it in
        let (later, begun) = first_word shape (number_past c.number items) y ys tail in
        let long : length s.items ≡ length items + suc (length ys) = ap length left.all_is ∙ length-append items left.more ∙ ap (λ l. length items + length l) e in
        inl (digit 0 y, cc, omega (arith, s.is_put.1, long), omega (arith, s.is_put.2.few, long))

stores_on :
    (shape : Shape) (c : Count) (seen : ℕ) (items : List ℕ) (value digits : ℕ) (x : Made) (rest : List Made) → LeavesRoom shape (c.number % modulus_of shape) seen →
    AllFit shape items → suc digits < width_of shape →
    From shape c (scan seen ++ (words_phrase shape c.number items ++ (writes_in (Cell (number_past c.number items % capacity_of shape)) (digit_writes value (suc digits)) ++ x ∷ rest))) →
    (v : Bool) × (x ≡ Write (Cell (number_past c.number items % capacity_of shape) (suc digits)) v)
stores_on shape c seen items value digits x rest room fit below f =
    let cell : ℕ = number_past c.number items % capacity_of shape in
    let zs : List Made = writes_in (Cell cell) (digit_writes value (suc digits)) ++ x ∷ rest in
    let s = stores shape c seen (words_phrase shape c.number items ++ zs) room f in
    let left = left_words shape c seen items zs fit s in
    by_more s left left.more refl
  where
    by_more :
        (s : StoresFrom shape c seen (words_phrase shape c.number items ++ (writes_in (Cell (number_past c.number items % capacity_of shape)) (digit_writes value (suc digits)) ++ x ∷ rest)))
        (left : WordsLeft shape c.number items s.items (writes_in (Cell (number_past c.number items % capacity_of shape)) (digit_writes value (suc digits)) ++ x ∷ rest) (batch_phrase shape P c s.items ++ s.behind_it))
        (more : List ℕ) → left.more ≡ more → (v : Bool) × (x ≡ Write (Cell (number_past c.number items % capacity_of shape) (suc digits)) v)
    by_more s left [] e =
        let cell : ℕ = number_past c.number items % capacity_of shape in
        let tail : List Made = batch_phrase shape P c s.items ++ s.behind_it in
        let (later, is) = digits_first value (suc digits) (omega arith) in
        let front : tail ≡ Write (Cell cell 0) (digit 0 value) ∷ (writes_in (Cell cell) later ++ x ∷ rest) = grind arith in
        absurd (count_first shape c s.items s.behind_it s.is_count s.is_put.2 cell 0 (digit 0 value) _ front)
    by_more s left (y ∷ ys) e =
        let cell : ℕ = number_past c.number items % capacity_of shape in
        let tail : List Made = batch_phrase shape P c s.items ++ s.behind_it in
        let word : List Made = word_write (width_of shape) cell y in
        let on = left.rest_is ∙ ap (λ l. words_phrase shape (number_past c.number items) l ++ tail) e ∙ append_assoc word (words_phrase shape (suc (number_past c.number items)) ys) tail in
        word_next cell (suc digits) (width_of shape) value y x rest (words_phrase shape (suc (number_past c.number items)) ys ++ tail) below on

counts_on :
    (shape : Shape) (c : Count) (seen : ℕ) (items : List ℕ) (u w : RowWrite) (writes more : List RowWrite) (x : Made) (rest : List Made) →
    LeavesRoom shape (c.number % modulus_of shape) seen → AllFit shape items → count_bits shape c items ≡ (u ∷ writes) ++ w ∷ more →
    From shape c (scan seen ++ (words_phrase shape c.number items ++ (writes_in (row_bit P) (u ∷ writes) ++ x ∷ rest))) → x ≡ count_access w
counts_on shape c seen items u w writes more x rest room fit bits f =
    let zs : List Made = writes_in (row_bit P) (u ∷ writes) ++ x ∷ rest in
    let s = stores shape c seen (words_phrase shape c.number items ++ zs) room f in
    let left = left_words shape c seen items zs fit s in
    by_more s left left.more refl
  where
    by_more :
        (s : StoresFrom shape c seen (words_phrase shape c.number items ++ (writes_in (row_bit P) (u ∷ writes) ++ x ∷ rest)))
        (left : WordsLeft shape c.number items s.items (writes_in (row_bit P) (u ∷ writes) ++ x ∷ rest) (batch_phrase shape P c s.items ++ s.behind_it))
        (behind_them : List ℕ) → left.more ≡ behind_them → x ≡ count_access w
    by_more s left [] e = grind (arith, append-nil, map-append, append_assoc, append_cancel_left)
    by_more s left (y ∷ ys) e =
        let tail : List Made = batch_phrase shape P c s.items ++ s.behind_it in
        let (later, begun) = first_word shape (number_past c.number items) y ys tail in
        absurd (cc)

-- ---- the last bit

one-words : (shape : Shape) (n : ℕ) (items : List ℕ) → AllOne (row_read_by P) (modulus_of shape) (words_phrase shape n items)
one-words shape n [] = record {}
one-words shape n (item ∷ items) = search (arith, one-append, one-writes, one-words shape (suc n) items)

one-put : (shape : Shape) (c : Count) (x : Put) → IsPut shape c.number x → AllOne (row_read_by P) (modulus_of shape) (put_phrase shape c x)
one-put shape c (Stored u i) (below, room, batch) = search (arith, one-append, one-scan, one-words, one-writes)
one-put shape c (Full u) (below, none) = one-scan P (modulus_of shape) u below

one-puts :
    (shape : Shape) (c : Count) (puts : List Put) (close : Bool) → ArePuts shape c.number puts → AllOne (row_read_by P) (modulus_of shape) (puts_from shape c puts close)
one-puts shape c [] close are = grind arith
one-puts shape c (x ∷ puts) close (is, are) = grind (arith, append_assoc, one-append, one-put, one-puts shape (stored_after shape c x) puts close are)

-- ---- the laws

pub last-puts_read_one : LastPutsReadOne
last-puts_read_one shape calls p made i v rest e last =
    one_at (row_read_by P) (modulus_of shape) made (Read (row_read_by P i) v) rest
    (subst (AllOne (row_read_by P) (modulus_of shape)) e (one-puts shape first_count calls.puts calls.closes p)) i v refl last

pub scans-or_closes : ScansOrCloses
scans-or_closes shape puts x rest are g = begins_call shape (count_behind shape puts) x rest (from_calls shape puts (x ∷ rest) are g)

pub scans-on : ScansOn
scans-on shape puts zeros x rest are g =
    goes_on_scanning shape (count_behind shape puts) zeros x rest (from_calls shape puts (zero_reads (row_read_by P) (suc zeros) ++ x ∷ rest) are g)

pub stores-or_counts : StoresOrCounts
stores-or_counts shape puts seen items x rest are room fit g = grind (arith, chooses, from_calls)

pub stores-on : StoresOn
stores-on shape puts seen items value digits x rest are room fit below g =
    stores_on shape (count_behind shape puts) seen items value digits x rest room fit below (from_calls shape puts _ are g)

pub counts-on : CountsOn
counts-on shape puts seen items u w writes more x rest are room fit bits g =
    counts_on shape (count_behind shape puts) seen items u w writes more x rest room fit bits (from_calls shape puts _ are g)
