-- A program's reads of the last bit of the other side's count return 1.
use Rattle.std.proofs.Common.{◌≡◌, ℕ, zero, suc, ◌<◌, Bool, true, List, [], ◌∷◌, ◌++◌, refl, subst, arith, append_assoc}
use Rattle.ring_core.proofs.Common.{Side, C, Bit, S, X, Shape, modulus_of, Count, first_count}
use Rattle.bits_core.specs.Made.{Made, Read}
use Rattle.register_core.specs.Row.{RowWrite, writes_in}
use Rattle.register_core.specs.Word.{digit_reads}
use Rattle.register_core.specs.ScanState.{zero_reads, scan_phrase, row_read_by}
use Rattle.ring_core.specs.Takes.{Take, End, Item, ItemAfterClose, Empty, Open, Closed, count_after, words_read, take_phrase, take_phrases, end_phrase, IsTake, AreTakes}
use Rattle.ring_core.specs.GoingOn.{LastTakesReadOne}

-- if the access reads the last bit of a row, it returns 1
abbrev pub OneAtLast : (ℕ → Bit) → ℕ → Made → Type 0
OneAtLast row modulus x = (i : ℕ) (v : Bool) → x ≡ Read (row i) v → suc i ≡ modulus → v ≡ true

-- each of the accesses does so
abbrev pub AllOne : (ℕ → Bit) → ℕ → List Made → Type 0
AllOne row modulus [] = Unit {0}
AllOne row modulus (x ∷ xs) = OneAtLast row modulus x × AllOne row modulus xs

pub one-append : (row : ℕ → Bit) (modulus : ℕ) (xs ys : List Made) → AllOne row modulus xs → AllOne row modulus ys → AllOne row modulus (xs ++ ys)
one-append row modulus [] ys p q = q
one-append row modulus (x ∷ xs) ys (one, p) q = (one, one-append row modulus xs ys p q)

pub one_at : (row : ℕ → Bit) (modulus : ℕ) (made : List Made) (x : Made) (rest : List Made) → AllOne row modulus (made ++ x ∷ rest) → OneAtLast row modulus x
one_at row modulus [] x rest (one, p) = one
one_at row modulus (y ∷ made) x rest (one, p) = one_at row modulus made x rest p

-- bits of a row are distinguished by their numbers
pub same_number : (s : Side) (i j : ℕ) → row_read_by s i ≡ row_read_by s j → i ≡ j
same_number s i j e = grind arith

one-zeros : (s : Side) (modulus c : ℕ) → c < modulus → AllOne (row_read_by s) modulus (zero_reads (row_read_by s) c)
one-zeros s modulus zero l = record {}
one-zeros s modulus (suc c) l = grind (arith, one-append, same_number, one-zeros s modulus c (omega (arith, l)))

pub one-scan : (s : Side) (modulus c : ℕ) → c < modulus → AllOne (row_read_by s) modulus (scan_phrase (row_read_by s) c)
one-scan s modulus c l = grind (arith, one-append, one-zeros s modulus c l)

pub one-writes : (s : Side) (row : ℕ → Bit) (modulus : ℕ) (writes : List RowWrite) → AllOne (row_read_by s) modulus (writes_in row writes)
one-writes s row modulus [] = record {}
one-writes s row modulus (w ∷ writes) = ((λ i v e last. absurd (cc)), one-writes s row modulus writes)

one-reads : (modulus cell item n : ℕ) → AllOne (row_read_by C) modulus (digit_reads cell item n)
one-reads modulus cell item zero = record {}
one-reads modulus cell item (suc n) = grind (arith, one-append, one-reads modulus cell item n)

one-words : (shape : Shape) (n : ℕ) (items : List ℕ) → AllOne (row_read_by C) (modulus_of shape) (words_read shape n items)
one-words shape n [] = record {}
one-words shape n (item ∷ items) = search (arith, one-append, one-reads, one-words shape (suc n) items)

one-close : (modulus : ℕ) (v : Bool) (rest : List Made) → AllOne (row_read_by C) modulus rest → AllOne (row_read_by C) modulus (Read X v ∷ rest)
one-close modulus v rest p = ((λ i w e last. let bits : X ≡ S i = cc in absurd (cc)), p)

one-take : (shape : Shape) (z : Count) (x : Take) → IsTake shape z.number x → AllOne (row_read_by C) (modulus_of shape) (take_phrase shape z x)
one-take shape z (Item c i) (sees, fits) = search (arith, one-append, one-scan, one-words, one-writes)
one-take shape z (ItemAfterClose c d i) (none, sees, fits) = search (arith, one-append, one-scan, one-close, one-words, one-writes)
one-take shape z (Empty c) none = search (arith, one-append, one-scan, one-close)

one-calls :
    (shape : Shape) (z : Count) (takes : List Take) (end : End) → AreTakes shape z.number takes end → AllOne (row_read_by C) (modulus_of shape) (take_phrases shape z takes ++ end_phrase end)
one-calls shape z [] Open p = record {}
one-calls shape z [] (Closed c d) (none, none') = search (arith, one-append, one-scan, one-close)
one-calls shape z (x ∷ takes) end (is, p) = grind (arith, append_assoc, one-append, one-take, one-calls shape (count_after shape z x) takes end p)

pub last-takes_read_one : LastTakesReadOne
last-takes_read_one shape calls p made i v rest e last =
    one_at (row_read_by C) (modulus_of shape) made (Read (row_read_by C i) v) rest
    (subst (AllOne (row_read_by C) (modulus_of shape)) e (one-calls shape first_count calls.takes calls.end p)) i v refl last
