-- Equal events of complete calls of the producer come from equal calls.
use Rattle.std.proofs.Common.{◌≡◌, ℕ, zero, suc, ◌%◌, ◌<◌, ◌≤◌, Bool, true, false, List, [], ◌∷◌, ◌++◌, refl, ap, arith, append_assoc}
use Rattle.ring_core.proofs.Common.{P, Bit, Cell, Shape, AllFit, capacity_of, modulus_of, width_of, Made, Write, LeavesRoom, LeavesRoomFor, Count, batch_phrase, IsCount}
use Rattle.register_core.specs.Row.{RowWrite, writes_in}
use Rattle.register_core.specs.Word.{digit, digit_writes, word_write}
use Rattle.register_core.specs.ScanState.{scan_phrase, row_read_by}
use Rattle.ring_core.specs.Puts.{Put, Stored, Full, stored_after, words_phrase, put_phrases, close_phrase, IsBatch}
use Rattle.ring_core.proofs.Readings.Phrases.{NotFirst, same_words_by, scan_begins, same_scan, same_word_write, joined_two, no_scan}
use Rattle.ring_core.proofs.CountRow.{batch_below, batch_first}

-- a scan is not a close
pub no_close : (a : Bool) (bit_of : ℕ → Bit) (c : ℕ) (xs : List Made) → close_phrase a ≡ scan_phrase bit_of c ++ xs → ⊥
no_close false bit_of c xs e = no_scan bit_of c xs e
no_close true bit_of c xs e = grind (arith, scan_begins bit_of c xs)

-- a list of puts and its close, from the first put on
pub puts_stored :
    (shape : Shape) (c : Count) (seen : ℕ) (items : List ℕ) (puts : List Put) (close : Bool) →
    put_phrases shape c (Stored seen items ∷ puts) ++ close_phrase close ≡
    scan_phrase (row_read_by P) seen ++
    (words_phrase shape c.number items ++ (batch_phrase shape P c items ++ (put_phrases shape (stored_after shape c (Stored seen items)) puts ++ close_phrase close)))
puts_stored shape c seen items puts close = grind (arith, joined_two)

pub puts_full :
    (shape : Shape) (c : Count) (seen : ℕ) (puts : List Put) (close : Bool) →
    put_phrases shape c (Full seen ∷ puts) ++ close_phrase close ≡ scan_phrase (row_read_by P) seen ++ (put_phrases shape c puts ++ close_phrase close)
puts_full shape c seen puts close = append_assoc (scan_phrase (row_read_by P) seen) (put_phrases shape c puts) (close_phrase close)

-- a count that leaves room is not one that leaves none
pub no_room :
    (shape : Shape) (n c d : ℕ) (xs ys : List Made) → LeavesRoom shape (n % modulus_of shape) c → ¬ LeavesRoom shape (n % modulus_of shape) d →
    scan_phrase (row_read_by P) c ++ xs ≡ scan_phrase (row_read_by P) d ++ ys → ⊥
no_room shape n c d xs ys room none e = grind (arith, same_scan (row_read_by P) c d xs ys e)

-- room for some items is room
pub some_room : (shape : Shape) (n d m : ℕ) → 1 ≤ m → LeavesRoomFor shape n d m → LeavesRoom shape n d
some_room shape n d m some room = omega (arith, some, room)

-- ---- words, and what comes after them

-- accesses that do not begin with a write to a cell
abbrev pub NoCellFirst : List Made → Type 0
NoCellFirst = NotFirst (λ j d v. Write (Cell j d) v)

-- a count write does not
pub count_first :
    (shape : Shape) (c : Count) (items : List ℕ) (behind : List Made) → IsCount shape c → IsBatch shape items → NoCellFirst (batch_phrase shape P c items ++ behind)
count_first shape c items behind is batch = batch_first shape P _ (λ i j d v w e. absurd (cc)) c items behind is batch.some (omega (arith, batch.few, batch_below shape))

-- a word does
pub digits_first : (item w : ℕ) → 0 < w → (rest : List RowWrite) × (digit_writes item w ≡ record { bit = 0; value = digit 0 item } ∷ rest)
digits_first item zero l = absurd (omega (arith, l))
digits_first item (suc zero) l = ([], refl)
digits_first item (suc (suc w)) l =
    let (rest, e) = digits_first item (suc w) (omega arith) in
    let last : List RowWrite = record { bit = suc w; value = digit (suc w) item } ∷ [] in
    (rest ++ last, ap (λ ws. ws ++ last) e)

pub word_first :
    (w cell item : ℕ) (behind : List Made) → 0 < w → (rest : List Made) × (word_write w cell item ++ behind ≡ Write (Cell cell 0) (digit 0 item) ∷ rest)
word_first w cell item behind l =
    let (rest, e) = digits_first item w l in
    (writes_in (Cell cell) rest ++ behind, ap (λ ws. writes_in (Cell cell) ws ++ behind) e)

pub words_first :
    (shape : Shape) (n item : ℕ) (items : List ℕ) (behind : List Made) → NoCellFirst (words_phrase shape n (item ∷ items) ++ behind) → ⊥
words_first shape n item items behind none =
    grind (arith, word_first (width_of shape) (n % capacity_of shape) item (words_phrase shape (suc n) items ++ behind) shape.has_digits, append_assoc)

-- words are determined by the accesses
pub same_words :
    (shape : Shape) (n : ℕ) (xs ys : List ℕ) (left right : List Made) → AllFit shape xs → AllFit shape ys → NoCellFirst left → NoCellFirst right →
    words_phrase shape n xs ++ left ≡ words_phrase shape n ys ++ right → (xs ≡ ys) × (left ≡ right)
same_words shape = same_words_by shape (words_phrase shape) (λ n. word_write (width_of shape) (n % capacity_of shape)) _ (λ n. refl) (λ n x xs. refl) (words_first shape) (λ n. same_word_write (width_of shape) (n % capacity_of shape))
