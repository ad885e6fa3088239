-- The machines of a word stand after what they made.
use Rattle.std.proofs.Common.{◌≡◌, ℕ, suc, ◌<◌, Bool, Some, List, [], ◌∷◌, ◌++◌, append_assoc, refl, sym, ap, ◌∙◌, arith}
use Rattle.register_core.proofs.Common.{map-append, Cell, Access, RowWrite, writes_in}
use Rattle.std.proofs.Math.Nat.{pow-succ'}
use Rattle.std.proofs.Math.Pow.{pow_mono}
use Rattle.bits_core.specs.declared.events.Access.TheVariants as begins
use Rattle.bits_core.specs.Made.{Made, Read, Write, answered}
use Rattle.register_core.specs.Machine.{IsNext}
use Rattle.register_core.specs.Word.{digit, digit_writes, word_write}
use Rattle.register_core.specs.WordState.{ReaderState, ReaderStands, due_read, read_digit, BeginsRead}
use Rattle.register_core.proofs.Digits.{writes_begin, reads_begin, reads_one, reads_zero}

pub writer-feeds : (cell item n : ℕ) → writes_in (Cell cell) (digit_writes item (suc n)) ≡ writes_in (Cell cell) (digit_writes item n) ++ Write (Cell cell n) (digit n item) ∷ []
writer-feeds cell item n = map-append (λ (w : RowWrite). Write (Cell cell w.bit) w.value) (digit_writes item n) (record { bit = n; value = digit n item } ∷ [])

pub writer-next : (width cell item n : ℕ) → n < width → (made : List Made) → made ≡ writes_in (Cell cell) (digit_writes item n) → IsNext (word_write width cell item) made (Some (begins.Write (Cell cell n) (digit n item)))
writer-next width cell item n within made stands =
    let x : Made = Write (Cell cell n) (digit n item) in
    let (rest, e) = writes_begin item (suc n) width within in
    let all : word_write width cell item ≡ writes_in (Cell cell) (digit_writes item (suc n)) ++ writes_in (Cell cell) rest =
    ap (writes_in (Cell cell)) (sym e) ∙ map-append (λ (w : RowWrite). Write (Cell cell w.bit) w.value) (digit_writes item (suc n)) rest in (
      x,
      writes_in (Cell cell) rest,
      refl,
      all ∙ ap (λ l. l ++ writes_in (Cell cell) rest) (writer-feeds cell item n ∙ ap (λ l. l ++ x ∷ []) (sym stands)) ∙ append_assoc made (x ∷ []) (writes_in (Cell cell) rest),
    )

pub reader-feeds : (r : ReaderState) (made : List Made) (answer : Bool) → ReaderStands r made → ReaderStands (read_digit r answer) (made ++ Read (Cell r.cell r.read) answer ∷ [])
reader-feeds r made answer h1 = grind (arith, pow-succ', reads_one, reads_zero)

due_is : (r : ReaderState) (access : Access) → due_read r ≡ Some access → access ≡ begins.Read (Cell r.cell r.read)
due_is r access due = grind (arith, r.cell, r.read, r.width)

pub reader-fed : (r next : ReaderState) (answer : Bool) → next ≡ read_digit r answer → (made : List Made) (access : Access) → ReaderStands r made → due_read r ≡ Some access → ReaderStands next (made ++ answered access answer ∷ [])
reader-fed r next answer fed made access stands due = rw (fed, due_is r access due) (reader-feeds r made answer stands)

pub reader-next : (r : ReaderState) (made : List Made) → ReaderStands r made → r.read < r.width → (answer : Bool) → BeginsRead r.width r.cell (made ++ Read (Cell r.cell r.read) answer ∷ [])
reader-next r made stands within answer =
    let next : ReaderState = read_digit r answer in
    let s : ReaderStands next (made ++ Read (Cell r.cell r.read) answer ∷ []) = reader-feeds r made answer stands in
    let (rest, e) = reads_begin r.cell next.value next.read r.width within in
    (next.value, omega (arith, s.fits, pow_mono {i = suc r.read} {j = r.width} within), (rest, ap (λ l. l ++ rest) s.made_is ∙ e))
