-- Some of the items that a put is offered, and their words.
use Rattle.std.proofs.Common.{◌≡◌, ℕ, zero, suc, ◌+◌, ◌%◌, ◌<◌, ◌≤◌, Some, List, [], ◌∷◌, ◌++◌, length, take, refl, sym, ap, ◌∙◌, arith, append_assoc, append-nil}
use Rattle.std.specs.Prelude.{slice_get, slice_index_or}
use Rattle.ring_core.proofs.Common.{mod-add-mod, Shape, AllFit, capacity_of, width_of, Made, number_past, words_phrase, IsBatch}
use Rattle.register_core.specs.Word.{word_write}
use Rattle.ring_core.proofs.CountRow.{past_is}

-- ---- the first of some items

pub take_all : (xs : List ℕ) (m : ℕ) → length xs ≤ m → take m xs ≡ xs
take_all [] zero l = refl
take_all [] (suc m) l = refl
take_all (x ∷ xs) zero l = absurd (omega (arith, l))
take_all (x ∷ xs) (suc m) l = ap (λ ys. x ∷ ys) (take_all xs m (omega (arith, l)))

pub taken_few : (xs : List ℕ) (m : ℕ) → (length (take m xs) ≤ m) × (length (take m xs) ≤ length xs)
taken_few [] zero = (omega arith, omega arith)
taken_few [] (suc m) = (omega arith, omega arith)
taken_few (x ∷ xs) zero = (omega arith, omega arith)
taken_few (x ∷ xs) (suc m) = let r = taken_few xs m in (omega (arith, r.0), omega (arith, r.1))

pub taken_some : (xs : List ℕ) (m : ℕ) → 1 ≤ m → 1 ≤ length xs → 1 ≤ length (take m xs)
taken_some xs m l some = grind arith

pub taken_so : (xs : List ℕ) (m : ℕ) → m ≤ length xs → length (take m xs) ≡ m
taken_so [] m l = grind arith
taken_so (x ∷ xs) zero l = refl
taken_so (x ∷ xs) (suc m) l = ap suc (taken_so xs m (omega (arith, l)))

taken_fit : (shape : Shape) (xs : List ℕ) (m : ℕ) → AllFit shape xs → AllFit shape (take m xs)
taken_fit shape [] zero fit = tt
taken_fit shape [] (suc m) fit = tt
taken_fit shape (x ∷ xs) zero fit = tt
taken_fit shape (x ∷ xs) (suc m) fit = (fit.0, taken_fit shape xs m fit.1)

-- some items of a batch are a batch
pub taken_batch : (shape : Shape) (xs : List ℕ) (m : ℕ) → 1 ≤ m → IsBatch shape xs → IsBatch shape (take m xs)
taken_batch shape xs m some batch = grind (arith, taken_some, taken_few, taken_fit)

-- each of a batch fits
pub fits_at : (shape : Shape) (xs : List ℕ) (i item : ℕ) → AllFit shape xs → slice_get xs i ≡ Some item → AllFit shape (item ∷ [])
fits_at shape [] i item fit e = absurd (cc)
fits_at shape (x ∷ xs) zero item fit e = let same : x ≡ item = cc in rw (sym same) (fit.0, tt)
fits_at shape (x ∷ xs) (suc i) item fit e = fits_at shape xs i item fit.1 e

-- what is among the first items is among all
pub taken_at : (xs : List ℕ) (q i : ℕ) → i < length (take q xs) → slice_get (take q xs) i ≡ Some (slice_index_or xs i 0)
taken_at [] zero i l = absurd (omega (arith, l))
taken_at [] (suc q) i l = absurd (omega (arith, l))
taken_at (x ∷ xs) zero i l = absurd (omega (arith, l))
taken_at (x ∷ xs) (suc q) zero l = refl
taken_at (x ∷ xs) (suc q) (suc i) l = taken_at xs q i (omega (arith, l))

-- ---- words

-- those of the first items and one more
pub words-take :
    (shape : Shape) (n : ℕ) (items : List ℕ) (i item : ℕ) → slice_get items i ≡ Some item →
    words_phrase shape n (take (suc i) items) ≡ words_phrase shape n (take i items) ++ word_write (width_of shape) ((n + i) % capacity_of shape) item
words-take shape n [] i item e = absurd (cc)
words-take shape n (x ∷ xs) zero item e = grind (arith, append-nil)
words-take shape n (x ∷ xs) (suc i) item e = grind (arith, append_assoc, words-take shape (suc n) xs i item e)

-- the words before one, this one and those after it
pub words-split :
    (shape : Shape) (n : ℕ) (items : List ℕ) (i most item : ℕ) → slice_get items i ≡ Some item → i < most →
    (later : List Made) × (words_phrase shape n (take most items) ≡ words_phrase shape n (take i items) ++ (word_write (width_of shape) ((n + i) % capacity_of shape) item ++ later))
words-split shape n [] i most item e l = absurd (cc)
words-split shape n (x ∷ xs) i zero item e l = absurd (omega (arith, l))
words-split shape n (x ∷ xs) zero (suc most) item e l =
    let same : x ≡ item = cc in
    let none : n ≡ n + 0 = omega arith in
    let later : List Made = words_phrase shape (suc n) (take most xs) in
    (later, ap (λ y. word_write (width_of shape) (n % capacity_of shape) y ++ later) same ∙ ap (λ k. word_write (width_of shape) (k % capacity_of shape) item ++ later) none)
words-split shape n (x ∷ xs) (suc i) (suc most) item e l =
    let word : List Made = word_write (width_of shape) (n % capacity_of shape) x in
    let numbers : suc n + i ≡ n + suc i = omega arith in
    let (later, is) = words-split shape (suc n) xs i most item e (omega (arith, l)) in (
      later,
      ap (λ l. word ++ l) is ∙ sym (append_assoc word (words_phrase shape (suc n) (take i xs)) _) ∙
          ap (λ k. (word ++ words_phrase shape (suc n) (take i xs)) ++ (word_write (width_of shape) (k % capacity_of shape) item ++ later)) numbers,
    )

-- ---- numbers

-- a number this far from a remainder
pub far_from : (count n i m : ℕ) → count ≡ n % m → (count + i) % m ≡ (n + i) % m
far_from count n i m e = ap (λ k. (k + i) % m) e ∙ mod-add-mod n m i

-- the number past some items, by their number
pub past_so : (count n m : ℕ) (items : List ℕ) (most : ℕ) → count ≡ n % m → length items ≡ most → (count + most) % m ≡ number_past n items % m
past_so count n m items most e size = far_from count n most m e ∙ ap (λ k. k % m) (omega (arith, past_is n items, size))
