-- How many accesses the phrases of a call have.
use Rattle.std.proofs.Common.{◌≡◌, ℕ, suc, ◌+◌, ◌*◌, ◌%◌, ◌≤◌, true, false, List, [], ◌∷◌, ◌++◌, length, refl, ap, arith, ◌∙◌, length-append}
use Rattle.ring_core.proofs.Common.{length-map, suc-mul, P, C, Bit, X, Cell, Shape, capacity_of, modulus_of, width_of, Count, IsCount, batch_phrase, words_phrase}
use Rattle.bits_core.specs.Made.{Made, Read, Write}
use Rattle.register_core.specs.Word.{digit_writes, word_write, word_read}
use Rattle.register_core.specs.ScanState.{zero_reads, scan_phrase, row_read_by}
use Rattle.ring_core.specs.Takes.{Item, ItemAfterClose, Empty, words_read, items_phrase}
use Rattle.ring_core.specs.Lengths.{longest_taking, ItemPutsAreShort, FullPutsAreShort, PutsAreShort, TakesAreShort, EndsAreShort}
use Rattle.ring_core.proofs.Readings.Phrases.{length-digit_reads, length-digit_writes}
use Rattle.ring_core.proofs.CountRow.{step_short, batch_short}
pub use Rattle.register_core.proofs.ScanMachine.{length-zeros as length-zero_reads}

-- ---- phrases

-- a scan that returns c has c + 1 reads
pub length-scan : (row : ℕ → Bit) (c : ℕ) → length (scan_phrase row c) ≡ suc c
length-scan row c = omega (arith, length-zero_reads row c, length-append (zero_reads row c) (Read (row c) true ∷ []))

-- a word write has a write for each digit
pub length-word_write : (width cell item : ℕ) → length (word_write width cell item) ≡ width
length-word_write width cell item = length-map (digit_writes item width) (λ w. Write (Cell cell w.bit) w.value) ∙ length-digit_writes item width

-- a word read has a read for each digit
pub length-word_read : (width cell item : ℕ) → length (word_read width cell item) ≡ width
length-word_read width cell item = length-digit_reads cell item width

-- ---- calls

-- the words of items one after the other, each with a fixed number of accesses, whichever side makes them
words-long :
    (words : ℕ → List ℕ → List Made) (word : ℕ → ℕ → List Made) (w : ℕ) → ((n : ℕ) → words n [] ≡ []) →
    ((n item : ℕ) (items : List ℕ) → words n (item ∷ items) ≡ word n item ++ words (suc n) items) → ((n item : ℕ) → length (word n item) ≡ w) →
    (n : ℕ) (items : List ℕ) → length (words n items) ≡ length items * w
words-long words word w none more each n [] = omega (arith, ap length (none n))
words-long words word w none more each n (item ∷ items) = grind (arith, length-append, suc-mul, words-long words word w none more each (suc n) items)

-- words have an access for each digit
pub length-words : (shape : Shape) (n : ℕ) (items : List ℕ) → length (words_phrase shape n items) ≡ length items * width_of shape
length-words shape =
    words-long (words_phrase shape) (λ n item. word_write (width_of shape) (n % capacity_of shape) item) (width_of shape) (λ n. refl) (λ n item items. refl)
    (λ n item. length-word_write (width_of shape) (n % capacity_of shape) item)

-- the parts of a put that stores
length-stored :
    (shape : Shape) (c : Count) (seen : ℕ) (items : List ℕ) →
    length (scan_phrase (row_read_by P) seen ++ words_phrase shape c.number items ++ batch_phrase shape P c items) ≡
    suc seen + length items * width_of shape + length (batch_phrase shape P c items)
length-stored shape c seen items =
    let scan : List Made = scan_phrase (row_read_by P) seen in
    grind (arith, length-append, length-scan (row_read_by P) seen, length-words)

-- no put is longer than the bounds
pub item_puts-are_short : ItemPutsAreShort
item_puts-are_short shape c seen item is (below, room, batch) = search (arith, length-stored, step_short)

pub full_puts-are_short : FullPutsAreShort
full_puts-are_short shape c seen (below, none) = omega (arith, below, length-scan (row_read_by P) seen)

pub puts-are_short : PutsAreShort
puts-are_short shape c seen items is (below, room, batch) = omega (arith, below, length-stored shape c seen items, batch_short shape P c items)

-- two scans with a read of the close bit between them
length-two_scans :
    (seen again : ℕ) → length (scan_phrase (row_read_by C) seen ++ Read X true ∷ scan_phrase (row_read_by C) again) ≡ suc seen + suc (suc again)
length-two_scans seen again =
    grind (arith, length-append (scan_phrase (row_read_by C) seen) (Read X true ∷ scan_phrase (row_read_by C) again), length-scan (row_read_by C) seen, length-scan (row_read_by C) again)

-- words that are read have an access for each digit
pub length-words_read : (shape : Shape) (n : ℕ) (items : List ℕ) → length (words_read shape n items) ≡ length items * width_of shape
length-words_read shape =
    words-long (words_read shape) (λ n item. word_read (width_of shape) (n % capacity_of shape) item) (width_of shape) (λ n. refl) (λ n item items. refl)
    (λ n item. length-word_read (width_of shape) (n % capacity_of shape) item)

-- the accesses that take items
length-items : (shape : Shape) (c : Count) (items : List ℕ) → length (items_phrase shape c items) ≡ length items * width_of shape + length (batch_phrase shape C c items)
length-items shape c items = grind (arith, length-append, length-words_read)

-- what follows the scans of a take of items: for one item its word and two writes of the count, for several a word each and a write
items_short :
    (shape : Shape) (c : Count) (items : List ℕ) (scans : ℕ) → IsCount shape c → 1 ≤ length items → scans ≤ 2 * modulus_of shape + 1 →
    scans + length (items_phrase shape c items) ≤ longest_taking shape (length items)
items_short shape c [] scans is some few = absurd (omega (arith, some))
items_short shape c (item ∷ []) scans is some few = search (arith, length-items, step_short)
items_short shape c (item ∷ next ∷ items) scans is some few = search (arith, length-items, batch_short)

-- no take is longer than the bound
pub takes-are_short : TakesAreShort
takes-are_short shape c (Item seen items) is ((below, few, room), batch) =
    grind (
      arith,
      length-append (scan_phrase (row_read_by C) seen) (items_phrase shape c items),
      length-scan (row_read_by C) seen,
      items_short shape c items (suc seen) is batch.some (omega (arith, below)),
    )
takes-are_short shape c (ItemAfterClose seen again items) is ((below, none), (below', few, room), batch) = search (arith, length-append, length-two_scans, items_short)
takes-are_short shape c (Empty seen) is (below, none) = grind (arith, length-append (scan_phrase (row_read_by C) seen) (Read X false ∷ []), length-scan (row_read_by C) seen)

-- no take that returns Closed is longer than the bound
pub ends-are_short : EndsAreShort
ends-are_short shape k seen again (below, none) (below', none') = omega (arith, below, below', length-two_scans seen again)
