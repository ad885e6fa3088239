-- The items that an actor has put, by the digits and the counts that it wrote.
use Rattle.std.proofs.Common.{◌≡◌, ◌⊎◌, inl, inr, ℕ, zero, suc, ◌+◌, ◌-◌, ◌*◌, ◌/◌, ◌≤◌, Bool, true, false, cond, List, [], ◌∷◌, ◌++◌, length, refl, sym, ap, ap₂, subst, ◌∙◌, arith, append_assoc, append-nil, length-append}
use Rattle.std.specs.Prelude.{nat_lt}
use Rattle.std.proofs.lemmas.Bool.{lt-ltb, le-ltb}
use Rattle.std.proofs.Math.Nat.{add-mul, mul-div_cancel}
use Rattle.ring_player.proofs.Common.{P, Bit, Shape, width_of, events_in, items_put, past_is}
use Rattle.bits_core.specs.declared.events.Bit.TheVariants as bit
use Rattle.bits_core.specs.Made.{Made, Read, Write, IsPrefix}
use Rattle.bits_core.proofs.Places.{prefix_no_longer}
use Rattle.register_core.specs.Row.{RowWrite, row_bit, writes_in}
use Rattle.register_core.specs.ScanState.{scan_phrase, row_read_by, zero_reads}
use Rattle.register_core.specs.Word.{digit_writes}
use Rattle.ring_core.specs.Counts.{Count, batch_phrase, count_bits, IsCount}
use Rattle.ring_core.specs.Puts.{ArePuts, Full, Put, Stored, close_phrase, put_phrases, stored_after, words_phrase}
use Rattle.ring_player.specs.Actors.{digits_in, items_begun}
use Rattle.ring_core.proofs.Cells.WordPlaces.{writes-append as map-append}
pub use Rattle.ring_core.proofs.Readings.ItemsRead.{none_put as put_nothing}
use Rattle.ring_core.proofs.LawLemmas.{counts_are_written_numbers, counts_are_written_written}

-- ---- what is written

-- the digits and the items of more accesses
pub digits-append : (xs ys : List Made) → digits_in (xs ++ ys) ≡ digits_in xs + digits_in ys
digits-append [] ys = omega arith
digits-append (Read b v ∷ xs) ys = digits-append xs ys
digits-append (Write (bit.Cell j i) v ∷ xs) ys = omega (arith, digits-append xs ys)
digits-append (Write (bit.S i) v ∷ xs) ys = digits-append xs ys
digits-append (Write (bit.R i) v ∷ xs) ys = digits-append xs ys
digits-append (Write bit.X v ∷ xs) ys = digits-append xs ys

pub begun-append : (w n seen : ℕ) (xs ys : List Made) → items_begun w n seen (xs ++ ys) ≡ items_begun w (n + digits_in xs) (items_begun w n seen xs) ys
begun-append w n seen [] ys = let none : n ≡ n + 0 = omega arith in ap (λ t. items_begun w t seen ys) none
begun-append w n seen (Read b v ∷ xs) ys = begun-append w n seen xs ys
begun-append w n seen (Write (bit.Cell j i) v ∷ xs) ys = grind (arith, begun-append w (1 + n) seen xs ys)
begun-append w n seen (Write (bit.S i) v ∷ xs) ys = begun-append w n (n / w) xs ys
begun-append w n seen (Write (bit.R i) v ∷ xs) ys = begun-append w n seen xs ys
begun-append w n seen (Write bit.X v ∷ xs) ys = begun-append w n seen xs ys

-- accesses among which no count write begins
abbrev NoCounts : List Made → Type 0
NoCounts [] = Unit {0}
NoCounts (Read b v ∷ xs) = NoCounts xs
NoCounts (Write (bit.Cell j i) v ∷ xs) = NoCounts xs
NoCounts (Write (bit.S i) v ∷ xs) = ⊥
NoCounts (Write (bit.R i) v ∷ xs) = ⊥
NoCounts (Write bit.X v ∷ xs) = NoCounts xs

no_counts-append : (xs ys : List Made) → NoCounts xs → NoCounts ys → NoCounts (xs ++ ys)
no_counts-append [] ys p q = q
no_counts-append (Read b v ∷ xs) ys p q = no_counts-append xs ys p q
no_counts-append (Write (bit.Cell j i) v ∷ xs) ys p q = no_counts-append xs ys p q
no_counts-append (Write (bit.S i) v ∷ xs) ys p q = absurd p
no_counts-append (Write (bit.R i) v ∷ xs) ys p q = absurd p
no_counts-append (Write bit.X v ∷ xs) ys p q = no_counts-append xs ys p q

no_counts-first : (xs ys : List Made) → NoCounts (xs ++ ys) → NoCounts xs
no_counts-first [] ys p = tt
no_counts-first (Read b v ∷ xs) ys p = no_counts-first xs ys p
no_counts-first (Write (bit.Cell j i) v ∷ xs) ys p = no_counts-first xs ys p
no_counts-first (Write (bit.S i) v ∷ xs) ys p = absurd p
no_counts-first (Write (bit.R i) v ∷ xs) ys p = absurd p
no_counts-first (Write bit.X v ∷ xs) ys p = no_counts-first xs ys p

none_begun : (w n seen : ℕ) (xs : List Made) → NoCounts xs → items_begun w n seen xs ≡ seen
none_begun w n seen [] p = refl
none_begun w n seen (Read b v ∷ xs) p = none_begun w n seen xs p
none_begun w n seen (Write (bit.Cell j i) v ∷ xs) p = none_begun w (1 + n) seen xs p
none_begun w n seen (Write (bit.S i) v ∷ xs) p = absurd p
none_begun w n seen (Write (bit.R i) v ∷ xs) p = absurd p
none_begun w n seen (Write bit.X v ∷ xs) p = none_begun w n seen xs p

-- ---- the parts of a put

zeros_quiet : (row : ℕ → Bit) (n : ℕ) → NoCounts (zero_reads row n)
zeros_quiet row zero = tt
zeros_quiet row (suc n) = no_counts-append (zero_reads row n) (Read (row n) false ∷ []) (zeros_quiet row n) tt

scan_quiet : (row : ℕ → Bit) (c : ℕ) → NoCounts (scan_phrase row c)
scan_quiet row c = no_counts-append (zero_reads row c) (Read (row c) true ∷ []) (zeros_quiet row c) tt

zeros_digits : (row : ℕ → Bit) (n : ℕ) → digits_in (zero_reads row n) ≡ 0
zeros_digits row zero = refl
zeros_digits row (suc n) = digits-append (zero_reads row n) (Read (row n) false ∷ []) ∙ ap (λ t. t + 0) (zeros_digits row n)

scan_digits : (row : ℕ → Bit) (c : ℕ) → digits_in (scan_phrase row c) ≡ 0
scan_digits row c = digits-append (zero_reads row c) (Read (row c) true ∷ []) ∙ ap (λ t. t + 0) (zeros_digits row c)

word_quiet : (j item n : ℕ) → NoCounts (writes_in (bit.Cell j) (digit_writes item n))
word_quiet j item zero = tt
word_quiet j item (suc n) =
    subst NoCounts (sym (map-append (bit.Cell j) (digit_writes item n) _)) (no_counts-append (writes_in (bit.Cell j) (digit_writes item n)) _ (word_quiet j item n) tt)

word_digits : (j item n : ℕ) → digits_in (writes_in (bit.Cell j) (digit_writes item n)) ≡ n
word_digits j item zero = refl
word_digits j item (suc n) =
    let one : n + 1 ≡ suc n = omega arith in
    ap digits_in (map-append (bit.Cell j) (digit_writes item n) _) ∙ digits-append (writes_in (bit.Cell j) (digit_writes item n)) _ ∙ ap (λ t. t + 1) (word_digits j item n) ∙ one

words_quiet : (shape : Shape) (n : ℕ) (items : List ℕ) → NoCounts (words_phrase shape n items)
words_quiet shape n [] = tt
words_quiet shape n (item ∷ items) = grind (arith, no_counts-append, word_quiet, words_quiet shape (suc n) items)

words_digits : (shape : Shape) (n : ℕ) (items : List ℕ) → digits_in (words_phrase shape n items) ≡ length items * width_of shape
words_digits shape n [] = omega arith
words_digits shape n (item ∷ items) = grind (arith, digits-append, word_digits, add-mul, words_digits shape (suc n) items)

-- the writes of a count
count_digits : (ws : List RowWrite) → digits_in (writes_in (row_bit P) ws) ≡ 0
count_digits [] = refl
count_digits (x ∷ ws) = count_digits ws

count_begun : (w n seen : ℕ) (ws : List RowWrite) → 1 ≤ length (writes_in (row_bit P) ws) → items_begun w n seen (writes_in (row_bit P) ws) ≡ n / w
count_begun w n seen [] l = absurd (omega (arith, l))
count_begun w n seen (x ∷ []) l = refl
count_begun w n seen (x ∷ y ∷ ws) l = count_begun w n (n / w) (y ∷ ws) (omega arith)

-- ---- the start of a program

split_front : {A : Type 0} (front back made : List A) → IsPrefix made (front ++ back) → IsPrefix made front ⊎ ((rest : List A) × (made ≡ front ++ rest) × IsPrefix rest back)
split_front [] back made p = inr (made, refl, p)
split_front (x ∷ front) back [] p = inl (x ∷ front, refl)
split_front (x ∷ front) back (y ∷ made) (r, e) = join (split_front front back made (r, tails))
  where
    tails : made ++ r ≡ front ++ back
    tails = cc

    head : y ≡ x
    head = cc

    join : IsPrefix made front ⊎ ((rest : List _) × (made ≡ front ++ rest) × IsPrefix rest back) →
        IsPrefix (y ∷ made) (x ∷ front) ⊎ ((rest : List _) × (y ∷ made ≡ (x ∷ front) ++ rest) × IsPrefix rest back)
    join (inl (s, f)) = inl (s, ap (λ l. y ∷ l) f ∙ ap (λ z. z ∷ front) head)
    join (inr (rest, f, p)) = inr (rest, ap (λ l. y ∷ l) f ∙ ap (λ z. z ∷ (front ++ rest)) head, p)

begin_writes : (row : ℕ → Bit) (made : List Made) (ws : List RowWrite) → IsPrefix made (writes_in row ws) → (vs : List RowWrite) × (made ≡ writes_in row vs)
begin_writes row [] ws p = ([], refl)
begin_writes row (x ∷ made) [] (r, e) = absurd (cc)
begin_writes row (x ∷ made) (w ∷ ws) (r, e) =
    let tails : made ++ r ≡ writes_in row ws = cc in
    let head : x ≡ Write (row w.bit) w.value = cc in
    let (vs, f) = begin_writes row made ws (r, tails) in
    (w ∷ vs, ap (λ l. x ∷ l) f ∙ ap (λ z. z ∷ writes_in row vs) head)

close_quiet : (b : Bool) → NoCounts (close_phrase b)
close_quiet b = grind arith

begin_quiet : (made more : List Made) → NoCounts more → IsPrefix made more → NoCounts made
begin_quiet made more p (r, e) = no_counts-first made r (subst NoCounts (sym e) p)

divided : (w n k : ℕ) → 1 ≤ w → (n * w + k * w) / w ≡ n + k
divided w n k l = ap (λ t. t / w) (sym (add-mul n k w)) ∙ mul-div_cancel (n + k) (omega (arith, l))

pub put_begun :
    (shape : Shape) (c : Count) (puts : List Put) (close : Bool) (made : List Made) (t : ℕ) → IsCount shape c → ArePuts shape c.number puts →
    IsPrefix made (put_phrases shape c puts ++ close_phrase close) → t ≤ 2 * length made → 2 * length made ≤ t + 1 →
    items_begun (width_of shape) (c.number * width_of shape) c.number made ≡ c.number + length (items_put shape c puts t)
put_begun shape c [] close made t is p begins low high = grind (arith, none_begun, begin_quiet, close_quiet)
put_begun shape c (Full u ∷ puts) close made t is p begins low high =
    by_split (put_begun shape c puts close) (split_front scan rest made (subst (IsPrefix made) (append_assoc scan (put_phrases shape c puts) (close_phrase close)) begins))
  where
    w : ℕ
    w = width_of shape

    scan : List Made
    scan = scan_phrase (row_read_by P) u

    rest : List Made
    rest = put_phrases shape c puts ++ close_phrase close

    by_split :
        ((made : List Made) (t : ℕ) → IsCount shape c → ArePuts shape c.number puts → IsPrefix made rest → t ≤ 2 * length made → 2 * length made ≤ t + 1 →
        items_begun w (c.number * w) c.number made ≡ c.number + length (items_put shape c puts t)) →
        (IsPrefix made scan ⊎ ((more : List Made) × (made ≡ scan ++ more) × IsPrefix more rest)) →
        items_begun w (c.number * w) c.number made ≡ c.number + length (items_put shape c puts (t - events_in scan))
    by_split again (inl q) =
        let none : c.number ≡ c.number + 0 = omega arith in
        none_begun w (c.number * w) c.number made (begin_quiet made scan (scan_quiet (row_read_by P) u) q) ∙ none
        ∙ ap (λ (l : List ℕ). c.number + length l) (sym (put_nothing shape c puts (t - events_in scan) (omega (arith, low, prefix_no_longer made scan q))))
    by_split again (inr (more, made_is, q)) =
        let size : length made ≡ length scan + length more = ap length made_is ∙ length-append scan more in
        let nothing : c.number * w + 0 ≡ c.number * w = omega arith in
        ap (items_begun w (c.number * w) c.number) made_is ∙ begun-append w (c.number * w) c.number scan more
        ∙ ap₂ (λ a b. items_begun w (c.number * w + a) b more) (scan_digits (row_read_by P) u) (none_begun w (c.number * w) c.number scan (scan_quiet (row_read_by P) u))
        ∙ ap (λ a. items_begun w a c.number more) nothing
        ∙ again more (t - events_in scan) is p.1 q (omega (arith, low, size)) (omega (arith, high, size))
put_begun shape c (Stored u items ∷ puts) close made t is p begins low high =
    by_front (put_begun shape next puts close) (split_front front (batch ++ rest) made (subst (IsPrefix made) parts begins))
  where
    w : ℕ
    w = width_of shape

    next : Count
    next = stored_after shape c (Stored u items)

    scan : List Made
    scan = scan_phrase (row_read_by P) u

    words : List Made
    words = words_phrase shape c.number items

    front : List Made
    front = scan ++ words

    batch : List Made
    batch = batch_phrase shape P c items

    rest : List Made
    rest = put_phrases shape next puts ++ close_phrase close

    parts : put_phrases shape c (Stored u items ∷ puts) ++ close_phrase close ≡ front ++ (batch ++ rest)
    parts = append_assoc (front ++ batch) (put_phrases shape next puts) (close_phrase close) ∙ append_assoc front batch rest

    quiet : NoCounts front
    quiet = no_counts-append scan words (scan_quiet (row_read_by P) u) (words_quiet shape c.number items)

    digits : digits_in front ≡ length items * w
    digits = digits-append scan words ∙ ap₂ (λ a b. a + b) (scan_digits (row_read_by P) u) (words_digits shape c.number items) ∙ nothing (length items * w)
      where
        nothing : (n : ℕ) → 0 + n ≡ n
        nothing n = omega arith

    filled : 1 ≤ length batch
    filled = counts_are_written_written shape P c items is p.0.2.some p.0.2.few

    whole : (c.number * w + digits_in front) / w ≡ c.number + length items
    whole = ap (λ t. (c.number * w + t) / w) digits ∙ divided w c.number (length items) (width_some shape)
      where
        width_some : (shape : Shape) → 1 ≤ width_of shape
        width_some shape = omega (arith, shape.has_digits)

    -- what is put, whether the count write has begun or not
    put_is : (b : Bool) → nat_lt (events_in front) t ≡ b → (l : List ℕ) → items_put shape next puts (t - events_in (front ++ batch)) ≡ l →
        items_put shape c (Stored u items ∷ puts) t ≡ cond b items [] ++ l
    put_is b e l f = ap₂ (λ (a : Bool) (m : List ℕ). cond a items [] ++ m) e f

    later : t ≤ 2 * (length front + length batch) → items_put shape next puts (t - events_in (front ++ batch)) ≡ []
    later l = put_nothing shape next puts (t - events_in (front ++ batch)) (omega (arith, l, length-append front batch))

    -- if it has not begun
    not_begun : NoCounts made → t ≤ 2 * length front → items_begun w (c.number * w) c.number made ≡ c.number + length (items_put shape c (Stored u items ∷ puts) t)
    not_begun q l =
        let none : c.number ≡ c.number + 0 = omega arith in
        none_begun w (c.number * w) c.number made q ∙ none
        ∙ ap (λ (m : List ℕ). c.number + length m) (sym (put_is false (le-ltb (events_in front) t l) [] (later (omega (arith, l)))))

    -- if it has
    begun_here :
        (more : List Made) → made ≡ front ++ more → 1 ≤ length more → (l : List ℕ) → items_put shape next puts (t - events_in (front ++ batch)) ≡ l →
        (n : ℕ) → items_begun w (c.number * w + digits_in front) (items_begun w (c.number * w) c.number front) more ≡ n → n ≡ c.number + (length items + length l) →
        items_begun w (c.number * w) c.number made ≡ c.number + length (items_put shape c (Stored u items ∷ puts) t)
    begun_here more made_is some l f n e g = grind (arith, length-append, begun-append, lt-ltb, put_is)

    by_rows : (more : List Made) → made ≡ front ++ more → IsPrefix more batch → (vs : List RowWrite) → more ≡ writes_in (row_bit P) vs →
        items_begun w (c.number * w) c.number made ≡ c.number + length (items_put shape c (Stored u items ∷ puts) t)
    by_rows more made_is r [] more_is =
        let all : made ≡ front = made_is ∙ ap (λ l. front ++ l) more_is ∙ append-nil front in
        not_begun (subst NoCounts (sym all) quiet) (omega (arith, low, ap length all))
    by_rows more made_is r (v ∷ vs) more_is =
        let size : length made ≡ length front + length more = ap length made_is ∙ length-append front more in
        let some : 1 ≤ length more = omega (arith, ap length more_is) in
        let nothing : c.number + length items ≡ c.number + (length items + 0) = omega arith in
        begun_here more made_is some [] (later (omega (arith, low, size, prefix_no_longer more batch r))) (c.number + length items)
        (ap (items_begun w (c.number * w + digits_in front) (items_begun w (c.number * w) c.number front)) more_is
        ∙ count_begun w (c.number * w + digits_in front) (items_begun w (c.number * w) c.number front) (v ∷ vs) (omega (arith, ap length more_is, some)) ∙ whole)
        nothing

    by_front :
        ((made : List Made) (t : ℕ) → IsCount shape next → ArePuts shape next.number puts → IsPrefix made rest → t ≤ 2 * length made → 2 * length made ≤ t + 1 →
        items_begun w (next.number * w) next.number made ≡ next.number + length (items_put shape next puts t)) →
        (IsPrefix made front ⊎ ((more : List Made) × (made ≡ front ++ more) × IsPrefix more (batch ++ rest))) →
        items_begun w (c.number * w) c.number made ≡ c.number + length (items_put shape c (Stored u items ∷ puts) t)
    by_front again (inl q) = not_begun (begin_quiet made front quiet q) (omega (arith, low, prefix_no_longer made front q))
    by_front again (inr (more, made_is, q)) = by_batch (split_front batch rest more q)
      where
        by_batch : (IsPrefix more batch ⊎ ((last : List Made) × (more ≡ batch ++ last) × IsPrefix last rest)) →
            items_begun w (c.number * w) c.number made ≡ c.number + length (items_put shape c (Stored u items ∷ puts) t)
        by_batch (inl r) = let rows = begin_writes (row_bit P) more (count_bits shape c items) r in by_rows more made_is r rows.0 rows.1
        by_batch (inr (last, more_is, r)) =
            let size : length made ≡ length front + length more = ap length made_is ∙ length-append front more in
            let size' : length more ≡ length batch + length last = ap length more_is ∙ length-append batch last in
            let t' : ℕ = t - events_in (front ++ batch) in
            let both : length (front ++ batch) ≡ length front + length batch = length-append front batch in
            let next_is : next.number ≡ c.number + length items = past_is c.number items in
            let start : c.number * w + digits_in front + digits_in batch ≡ next.number * w =
            ap₂ (λ a b. c.number * w + a + b) digits (count_digits (count_bits shape c items)) ∙ nothing (c.number * w + length items * w) ∙ sym (add-mul c.number (length items) w) ∙ ap (λ n. n * w) (sym next_is) in
            let there : items_begun w (c.number * w + digits_in front) (items_begun w (c.number * w) c.number front) batch ≡ next.number =
            count_begun w (c.number * w + digits_in front) (items_begun w (c.number * w) c.number front) (count_bits shape c items) filled ∙ whole ∙ sym next_is in
            let rest_put : List ℕ = items_put shape next puts t' in
            let sum : next.number + length rest_put ≡ c.number + (length items + length rest_put) = omega (arith, next_is) in
            begun_here more made_is (omega (arith, size', filled)) rest_put refl (next.number + length rest_put)
            (ap (items_begun w (c.number * w + digits_in front) (items_begun w (c.number * w) c.number front)) more_is
            ∙ begun-append w (c.number * w + digits_in front) (items_begun w (c.number * w) c.number front) batch last
            ∙ ap₂ (λ a b. items_begun w a b last) start there
            ∙ again last t' ((counts_are_written_numbers shape).1 c u items) p.1 r (omega (arith, low, size, size', both)) (omega (arith, high, size, size', both)))
            sum
          where
            nothing : (n : ℕ) → n + 0 ≡ n
            nothing n = omega arith
