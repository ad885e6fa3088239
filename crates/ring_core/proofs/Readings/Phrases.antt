-- Lists of accesses that start with phrases: the phrase and what follows it are determined by the list.
use Rattle.std.proofs.Common.{◌≡◌, ℕ, zero, suc, ◌^◌, ◌<◌, Bool, true, false, List, [], ◌∷◌, ◌++◌, length, refl, sym, ap, ◌∙◌, arith, ◌⊎◌, inl, inr, append_assoc}
use Rattle.ring_core.proofs.Common.{Bit, Cell, Shape, AllFit, width_of}
use Rattle.bits_core.specs.Made.{Made, Read}
use Rattle.register_core.specs.Row.{RowWrite, writes_in}
use Rattle.register_core.specs.Word.{digit, digit_writes, digit_reads, word_write, word_read}
use Rattle.register_core.specs.ScanState.{zero_reads, scan_phrase}
pub use Rattle.register_core.proofs.Digits.{length-reads as length-digit_reads}
pub use Rattle.register_core.proofs.Items.{length-digit_writes}
use Rattle.register_core.proofs.LawLemmas.{digits_tell_items}

-- ---- calls one after the other

-- the phrases of a call, what follows the call, and the end
pub joined : (s t r z : List Made) → ((s ++ t) ++ r) ++ z ≡ s ++ (t ++ (r ++ z))
joined s t r z = append_assoc (s ++ t) r z ∙ append_assoc s t (r ++ z)

pub joined_two : (s t u r z : List Made) → (((s ++ t) ++ u) ++ r) ++ z ≡ s ++ (t ++ (u ++ (r ++ z)))
joined_two s t u r z = joined (s ++ t) u r z ∙ append_assoc s t (u ++ (r ++ z))

-- ---- events and accesses

-- ---- scans

-- a scan from its first read on
zero_reads-front : (bit_of : ℕ → Bit) (n : ℕ) → zero_reads bit_of (suc n) ≡ Read (bit_of 0) false ∷ zero_reads (λ i. bit_of (suc i)) n
zero_reads-front bit_of zero = refl
zero_reads-front bit_of (suc n) = ap (λ l. l ++ Read (bit_of (suc n)) false ∷ []) (zero_reads-front bit_of n)

pub scan-front : (bit_of : ℕ → Bit) (c : ℕ) → scan_phrase bit_of (suc c) ≡ Read (bit_of 0) false ∷ scan_phrase (λ i. bit_of (suc i)) c
scan-front bit_of c = ap (λ l. l ++ Read (bit_of (suc c)) true ∷ []) (zero_reads-front bit_of c)

-- a scan begins with a read of bit 0
pub scan_begins : (bit_of : ℕ → Bit) (c : ℕ) (xs : List Made) → (v : Bool) × (rest : List Made) × (scan_phrase bit_of c ++ xs ≡ Read (bit_of 0) v ∷ rest)
scan_begins bit_of zero xs = (true, xs, refl)
scan_begins bit_of (suc c) xs = (false, scan_phrase (λ i. bit_of (suc i)) c ++ xs, ap (λ l. l ++ xs) (scan-front bit_of c))

pub same_scan : (bit_of : ℕ → Bit) (a b : ℕ) (xs ys : List Made) → scan_phrase bit_of a ++ xs ≡ scan_phrase bit_of b ++ ys → (a ≡ b) × (xs ≡ ys)
same_scan bit_of zero zero xs ys e = (refl, cc)
same_scan bit_of zero (suc b) xs ys e = grind (arith, scan-front)
same_scan bit_of (suc a) zero xs ys e = grind (arith, scan-front)
same_scan bit_of (suc a) (suc b) xs ys e =
    let f : Read (bit_of 0) false ∷ (scan_phrase (λ i. bit_of (suc i)) a ++ xs) ≡ Read (bit_of 0) false ∷ (scan_phrase (λ i. bit_of (suc i)) b ++ ys) =
    sym (ap (λ l. l ++ xs) (scan-front bit_of a)) ∙ e ∙ ap (λ l. l ++ ys) (scan-front bit_of b) in
    let g : scan_phrase (λ i. bit_of (suc i)) a ++ xs ≡ scan_phrase (λ i. bit_of (suc i)) b ++ ys = cc in
    let rest : (a ≡ b) × (xs ≡ ys) = same_scan (λ i. bit_of (suc i)) a b xs ys g in
    (ap suc rest.0, rest.1)

-- a scan has an access
pub no_scan : (bit_of : ℕ → Bit) (c : ℕ) (xs : List Made) → [] ≡ scan_phrase bit_of c ++ xs → ⊥
no_scan bit_of c xs e = grind (arith, scan_begins bit_of c xs)

-- ---- words

-- prefixes of one length
same_parts : {A : Type 0} → (us vs xs ys : List A) → length us ≡ length vs → us ++ xs ≡ vs ++ ys → (us ≡ vs) × (xs ≡ ys)
same_parts [] [] xs ys n e = (refl, e)
same_parts [] (v ∷ vs) xs ys n e = absurd (cc)
same_parts (u ∷ us) [] xs ys n e = absurd (cc)
same_parts (u ∷ us) (v ∷ vs) xs ys n e = grind (arith, same_parts us vs xs ys (omega (arith, n)) (cc))

pub at_or_below : (i n : ℕ) → i < suc n → (i ≡ n) ⊎ (i < n)
at_or_below i n l = grind arith

-- the digits of a word, up to one of them
pub digits_split : (y n w : ℕ) → n < w → (rest : List RowWrite) × (digit_writes y w ≡ digit_writes y n ++ record { bit = n; value = digit n y } ∷ rest)
digits_split y n zero l = absurd (omega (arith, l))
digits_split y n (suc w) l = elim (at_or_below n w l) [
  | inl e ↦ ([], ap (λ k. digit_writes y k ++ record { bit = k; value = digit k y } ∷ []) (sym e))
  | inr below ↦
      let (rest, is) = digits_split y n w below in
      let last : List RowWrite = record { bit = w; value = digit w y } ∷ [] in
      (rest ++ last, ap (λ l. l ++ last) is ∙ append_assoc (digit_writes y n) (record { bit = n; value = digit n y } ∷ rest) last)
]

digits_read : (cell n a b : ℕ) → digit_reads cell a n ≡ digit_reads cell b n → (i : ℕ) → i < n → digit i a ≡ digit i b
digits_read cell zero a b e i l = absurd (omega arith)
digits_read cell (suc n) a b e i l =
    let parts : (digit_reads cell a n ≡ digit_reads cell b n) × (Read (Cell cell n) (digit n a) ∷ [] ≡ Read (Cell cell n) (digit n b) ∷ []) =
    same_parts (digit_reads cell a n) (digit_reads cell b n) (Read (Cell cell n) (digit n a) ∷ []) (Read (Cell cell n) (digit n b) ∷ []) (length-digit_reads cell a n ∙ sym (length-digit_reads cell b n)) e in
    elim (at_or_below i n l) [
      | inl q ↦ let last : digit n a ≡ digit n b = (let f : Read (Cell cell n) (digit n a) ∷ [] ≡ Read (Cell cell n) (digit n b) ∷ [] = parts.1 in cc) in ap (λ k. digit k a) q ∙ last ∙ sym (ap (λ k. digit k b) q)
      | inr below ↦ digits_read cell n a b parts.0 i below
    ]

pub same_word_read :
    (width cell a b : ℕ) (xs ys : List Made) → a < 2 ^ width → b < 2 ^ width →
    word_read width cell a ++ xs ≡ word_read width cell b ++ ys → (a ≡ b) × (xs ≡ ys)
same_word_read width cell a b xs ys l m e =
    search (arith, same_parts (digit_reads cell a width) (digit_reads cell b width) xs ys (length-digit_reads cell a width ∙ sym (length-digit_reads cell b width)) e, digits_tell_items, digits_read)

abbrev with_parts : ℕ → Bool → RowWrite
with_parts b v = record { bit = b; value = v }

-- the writes of a row are determined by their accesses
pub same_writes :
    (cell : ℕ) (us vs : List RowWrite) (xs ys : List Made) → length us ≡ length vs →
    writes_in (Cell cell) us ++ xs ≡ writes_in (Cell cell) vs ++ ys → (us ≡ vs) × (xs ≡ ys)
same_writes cell [] [] xs ys n e = (refl, e)
same_writes cell [] (v ∷ vs) xs ys n e = absurd (cc)
same_writes cell (u ∷ us) [] xs ys n e = absurd (cc)
same_writes cell (u ∷ us) (v ∷ vs) xs ys n e = grind (arith, same_writes cell us vs xs ys (omega (arith, n)) (cc))

digits_written : (n a b : ℕ) → digit_writes a n ≡ digit_writes b n → (i : ℕ) → i < n → digit i a ≡ digit i b
digits_written zero a b e i l = absurd (omega arith)
digits_written (suc n) a b e i l =
    let x : List RowWrite = record { bit = n; value = digit n a } ∷ [] in
    let y : List RowWrite = record { bit = n; value = digit n b } ∷ [] in
    let parts : (digit_writes a n ≡ digit_writes b n) × (x ≡ y) =
    same_parts (digit_writes a n) (digit_writes b n) x y (length-digit_writes a n ∙ sym (length-digit_writes b n)) e in
    elim (at_or_below i n l) [
      | inl q ↦ let last : digit n a ≡ digit n b = (let f : x ≡ y = parts.1 in let head : with_parts n (digit n a) ≡ with_parts n (digit n b) = cc in ap (λ (w : RowWrite). w.value) head) in ap (λ k. digit k a) q ∙ last ∙ sym (ap (λ k. digit k b) q)
      | inr below ↦ digits_written n a b parts.0 i below
    ]

pub same_word_write :
    (width cell a b : ℕ) (xs ys : List Made) → a < 2 ^ width → b < 2 ^ width →
    word_write width cell a ++ xs ≡ word_write width cell b ++ ys → (a ≡ b) × (xs ≡ ys)
same_word_write width cell a b xs ys l m e =
    search (arith, same_writes cell (digit_writes a width) (digit_writes b width) xs ys (length-digit_writes a width ∙ sym (length-digit_writes b width)) e, digits_tell_items, digits_written)

-- ---- words one after the other, and what comes after them

-- accesses that do not begin with one of these
abbrev pub NotFirst : (ℕ → ℕ → Bool → Made) → List Made → Type 0
NotFirst access made = (j d : ℕ) (v : Bool) (rest : List Made) → made ≡ access j d v ∷ rest → ⊥

-- words that start with one are determined by the accesses, if each of them is
pub same_words_by :
    (shape : Shape) (words : ℕ → List ℕ → List Made) (word : ℕ → ℕ → List Made) (access : ℕ → ℕ → Bool → Made) → ((n : ℕ) → words n [] ≡ []) →
    ((n item : ℕ) (items : List ℕ) → words n (item ∷ items) ≡ word n item ++ words (suc n) items) →
    ((n item : ℕ) (items : List ℕ) (behind : List Made) → NotFirst access (words n (item ∷ items) ++ behind) → ⊥) →
    ((n x y : ℕ) (xs ys : List Made) → x < 2 ^ width_of shape → y < 2 ^ width_of shape → word n x ++ xs ≡ word n y ++ ys → (x ≡ y) × (xs ≡ ys)) →
    (n : ℕ) (xs ys : List ℕ) (left right : List Made) → AllFit shape xs → AllFit shape ys → NotFirst access left → NotFirst access right →
    words n xs ++ left ≡ words n ys ++ right → (xs ≡ ys) × (left ≡ right)
same_words_by shape words word access none more begins same n [] [] left right f g l r e = grind arith
same_words_by shape words word access none more begins same n [] (y ∷ ys) left right f g l r e =
    absurd (begins n y ys right (λ j d v rest is. l j d v rest (sym (ap (λ z. z ++ left) (none n)) ∙ e ∙ is)))
same_words_by shape words word access none more begins same n (x ∷ xs) [] left right f g l r e =
    absurd (begins n x xs left (λ j d v rest is. r j d v rest (sym (ap (λ z. z ++ right) (none n)) ∙ sym e ∙ is)))
same_words_by shape words word access none more begins same n (x ∷ xs) (y ∷ ys) left right f g l r e =
    let parts : (z : ℕ) (zs : List ℕ) (end : List Made) → words n (z ∷ zs) ++ end ≡ word n z ++ (words (suc n) zs ++ end) = grind (arith, append_assoc) in
    grind (arith, same_words_by shape words word access none more begins same (suc n) xs ys left right f.1 g.1 l r (same n x y _ _ f.0 g.0 (sym (parts x xs left) ∙ e ∙ parts y ys right)).1)
