-- Equal events of complete calls of the consumer come from equal calls.
use Rattle.std.proofs.Common.{◌≡◌, ℕ, zero, suc, ◌%◌, ◌<◌, ◌≤◌, true, false, List, [], ◌∷◌, ◌++◌, length, refl, sym, ap, ap₂, subst, ◌∙◌, arith, append_assoc, append-nil, length-append}
use Rattle.ring_core.proofs.Common.{append_cancel_left, C, X, Cell, Shape, AllFit, capacity_of, width_of, Count, first_count, IsCount, batch_phrase, Tells}
use Rattle.bits_core.specs.Made.{Made, Read}
use Rattle.register_core.specs.Word.{digit, digit_reads, word_read}
use Rattle.register_core.specs.ScanState.{row_read_by}
use Rattle.ring_core.specs.Takes.{Take, Takes, End, Item, ItemAfterClose, Empty, Open, Closed, count_after, taken_count, words_read, items_phrase, take_phrase, take_phrases, end_phrase, take_program, SeesItems, SeesNone, IsTakeBatch, IsTake, AreTakes}
use Rattle.ring_core.specs.Readings.{TakesAreRead, TakesAreFirst}
use Rattle.ring_core.proofs.Readings.Phrases.{NotFirst, same_words_by, no_scan, same_scan, same_word_read, joined}
use Rattle.ring_core.proofs.CountRow.{take_batch_below, batch_first, first_is_count, counted_is_count}
use Rattle.ring_core.proofs.Readings.TakesFirst.{scan, calls_from, closed_first}
use Rattle.ring_core.proofs.Readings.Cuts.{begin_each_other, made_first}

-- what distinguishes the takes: a count that shows items shows them, and the close bit is 0 or 1
pub item_or_none :
    (shape : Shape) (k c d m : ℕ) (xs ys : List Made) → 1 ≤ m → SeesItems shape k c m → SeesNone shape k d → scan c ++ xs ≡ scan d ++ ys → ⊥
item_or_none shape k c d m xs ys some (below, few, room) (below', none) e = grind (arith, same_scan (row_read_by C) c d xs ys e)

pub open_or_closed : (c d : ℕ) (xs ys : List Made) → scan c ++ (Read X false ∷ xs) ≡ scan d ++ (Read X true ∷ ys) → ⊥
open_or_closed c d xs ys e = grind (arith, same_scan (row_read_by C) c d (Read X false ∷ xs) (Read X true ∷ ys) e)

-- scans of two counts, with a close bit read as 1 between them
pub same_twice :
    (c d c' d' : ℕ) (xs ys : List Made) → scan c ++ (Read X true ∷ (scan d ++ xs)) ≡ scan c' ++ (Read X true ∷ (scan d' ++ ys)) →
    (c ≡ c') × (scan d ++ xs ≡ scan d' ++ ys)
same_twice c d c' d' xs ys e = grind (arith, scan d, scan d', same_scan (row_read_by C) c c' (Read X true ∷ (scan d ++ xs)) (Read X true ∷ (scan d' ++ ys)) e)

pub after_or_closed :
    (shape : Shape) (k c d c' d' m : ℕ) (xs ys : List Made) → 1 ≤ m → SeesItems shape k d m → SeesNone shape k d' →
    scan c ++ (Read X true ∷ (scan d ++ xs)) ≡ scan c' ++ (Read X true ∷ (scan d' ++ ys)) → ⊥
after_or_closed shape k c d c' d' m xs ys some sees none e = item_or_none shape k d d' m xs ys some sees none (same_twice c d c' d' xs ys e).1

-- ---- words, and what comes after them

-- accesses that do not begin with a read of a cell
abbrev pub NoCellReadFirst : List Made → Type 0
NoCellReadFirst = NotFirst (λ j d v. Read (Cell j d) v)

-- a count write does not
pub count_first :
    (shape : Shape) (c : Count) (items : List ℕ) (behind : List Made) → IsCount shape c → IsTakeBatch shape items → NoCellReadFirst (batch_phrase shape C c items ++ behind)
count_first shape c items behind is batch = batch_first shape C _ (λ i j d v w e. absurd (cc)) c items behind is batch.some (omega (arith, batch.few, take_batch_below shape))

-- a word does
pub digits_first : (cell item w : ℕ) → 0 < w → (rest : List Made) × (digit_reads cell item w ≡ Read (Cell cell 0) (digit 0 item) ∷ rest)
digits_first cell item zero l = absurd (omega (arith, l))
digits_first cell item (suc zero) l = ([], refl)
digits_first cell item (suc (suc w)) l =
    let (rest, e) = digits_first cell item (suc w) (omega arith) in
    let last : List Made = Read (Cell cell (suc w)) (digit (suc w) item) ∷ [] in
    (rest ++ last, ap (λ ws. ws ++ last) e)

words_first :
    (shape : Shape) (n item : ℕ) (items : List ℕ) (behind : List Made) → NoCellReadFirst (words_read shape n (item ∷ items) ++ behind) → ⊥
words_first shape n item items behind none = grind (arith, digits_first (n % capacity_of shape) item (width_of shape) shape.has_digits, append_assoc)

-- words are determined by the accesses
pub same_words :
    (shape : Shape) (n : ℕ) (xs ys : List ℕ) (left right : List Made) → AllFit shape xs → AllFit shape ys → NoCellReadFirst left → NoCellReadFirst right →
    words_read shape n xs ++ left ≡ words_read shape n ys ++ right → (xs ≡ ys) × (left ≡ right)
same_words shape = same_words_by shape (words_read shape) (λ n. word_read (width_of shape) (n % capacity_of shape)) _ (λ n. refl) (λ n x xs. refl) (words_first shape) (λ n. same_word_read (width_of shape) (n % capacity_of shape))

-- so are the items of a take
pub same_items_phrase :
    (shape : Shape) (c : Count) (is : IsCount shape c) (i j : List ℕ) (xs ys : List Made) → IsTakeBatch shape i → IsTakeBatch shape j →
    items_phrase shape c i ++ xs ≡ items_phrase shape c j ++ ys → (i ≡ j) × (xs ≡ ys)
same_items_phrase shape c is i j xs ys batch batch' e = grind (arith, same_words, count_first, append_assoc, append_cancel_left)

-- ---- calls that begin alike

-- calls from the first take on
pub from_take :
    (shape : Shape) (k : Count) (x : Take) (takes : List Take) (end : End) →
    calls_from shape k (x ∷ takes) end ≡ take_phrase shape k x ++ calls_from shape (count_after shape k x) takes end
from_take shape k x takes end = append_assoc (take_phrase shape k x) (take_phrases shape (count_after shape k x) takes) (end_phrase end)

-- the bits of the count after a take are those of a count
pub after_is_count : (shape : Shape) (k : Count) (x : Take) → IsCount shape k → IsCount shape (count_after shape k x)
after_is_count shape k (Item seen items) is = counted_is_count shape k items
after_is_count shape k (ItemAfterClose seen again items) is = counted_is_count shape k items
after_is_count shape k (Empty seen) is = is

-- the accesses of a take, or of one that returns Closed, and what follows them, from the scan on
item_on :
    (shape : Shape) (k : Count) (seen : ℕ) (items : List ℕ) (zs : List Made) →
    take_phrase shape k (Item seen items) ++ zs ≡ scan seen ++ (items_phrase shape k items ++ zs)
item_on shape k seen items zs = append_assoc (scan seen) (items_phrase shape k items) zs

after_on :
    (shape : Shape) (k : Count) (seen again : ℕ) (items : List ℕ) (zs : List Made) →
    take_phrase shape k (ItemAfterClose seen again items) ++ zs ≡ scan seen ++ (Read X true ∷ (scan again ++ (items_phrase shape k items ++ zs)))
after_on shape k seen again items zs = joined (scan seen) (Read X true ∷ scan again) (items_phrase shape k items) zs

empty_on : (shape : Shape) (k : Count) (seen : ℕ) (zs : List Made) → take_phrase shape k (Empty seen) ++ zs ≡ scan seen ++ (Read X false ∷ zs)
empty_on shape k seen zs = append_assoc (scan seen) (Read X false ∷ []) zs

closed_on :
    (shape : Shape) (k : Count) (seen again : ℕ) (zs : List Made) →
    calls_from shape k [] (Closed seen again) ++ zs ≡ scan seen ++ (Read X true ∷ (scan again ++ zs))
closed_on shape k seen again zs = append_assoc (scan seen) (Read X true ∷ scan again) zs

pub same_calls : (a b : Takes) → a.takes ≡ b.takes → a.end ≡ b.end → a ≡ b
same_calls a b p q = ap₂ (λ (x : List Take) (y : End). record { takes = x; end = y }) p q

-- a take is not one that returns Closed
never_end :
    (shape : Shape) (k : Count) (x : Take) (d d' : ℕ) (xs ys : List Made) → IsTake shape k.number x → SeesNone shape k.number d → SeesNone shape k.number d' →
    take_phrase shape k x ++ xs ≡ end_phrase (Closed d d') ++ ys → ⊥
never_end shape k (Item c i) d d' xs ys (sees, fits) none none' e =
    item_or_none shape k.number c d _ _ _ fits.some sees none (sym (item_on shape k c i xs) ∙ e ∙ closed_on shape k d d' ys)
never_end shape k (ItemAfterClose c c' i) d d' xs ys (before, sees, fits) none none' e =
    after_or_closed shape k.number c c' d d' _ _ _ fits.some sees none' (sym (after_on shape k c c' i xs) ∙ e ∙ closed_on shape k d d' ys)
never_end shape k (Empty c) d d' xs ys p none none' e = open_or_closed c d _ _ (sym (empty_on shape k c xs) ∙ e ∙ closed_on shape k d d' ys)

-- accesses that begin with those of a take determine it
same_take :
    (shape : Shape) (k : Count) → IsCount shape k → (x y : Take) (xs ys : List Made) → IsTake shape k.number x → IsTake shape k.number y →
    take_phrase shape k x ++ xs ≡ take_phrase shape k y ++ ys → x ≡ y
same_take shape k is (Item c i) (Item d j) xs ys (sees, fits) (sees', fits') e =
    let scans = same_scan (row_read_by C) c d _ _ (sym (item_on shape k c i xs) ∙ e ∙ item_on shape k d j ys) in
    ap₂ Item scans.0 (same_items_phrase shape k is i j xs ys fits fits' scans.1).0
same_take shape k is (ItemAfterClose c c' i) (ItemAfterClose d d' j) xs ys (none, sees, fits) (none', sees', fits') e =
    let twice = same_twice c c' d d' _ _ (sym (after_on shape k c c' i xs) ∙ e ∙ after_on shape k d d' j ys) in
    let scans = same_scan (row_read_by C) c' d' _ _ twice.1 in
    grind (arith, same_items_phrase)
same_take shape k is (Empty c) (Empty d) xs ys p q e = ap Empty (same_scan (row_read_by C) c d _ _ (sym (empty_on shape k c xs) ∙ e ∙ empty_on shape k d ys)).0
same_take shape k is (Item c i) (ItemAfterClose d d' j) xs ys (sees, fits) (none, sees', fits') e =
    absurd (item_or_none shape k.number c d _ _ _ fits.some sees none (sym (item_on shape k c i xs) ∙ e ∙ after_on shape k d d' j ys))
same_take shape k is (Item c i) (Empty d) xs ys (sees, fits) none e =
    absurd (item_or_none shape k.number c d _ _ _ fits.some sees none (sym (item_on shape k c i xs) ∙ e ∙ empty_on shape k d ys))
same_take shape k is (ItemAfterClose c c' i) (Empty d) xs ys p q e = grind (arith, open_or_closed, empty_on shape k d ys, after_on shape k c c' i xs)
same_take shape k is (ItemAfterClose c c' i) (Item d j) xs ys (none, sees', fits') (sees, fits) e =
    absurd (item_or_none shape k.number d c _ _ _ fits.some sees none (sym (item_on shape k d j ys) ∙ sym e ∙ after_on shape k c c' i xs))
same_take shape k is (Empty c) (Item d j) xs ys none (sees, fits) e =
    absurd (item_or_none shape k.number d c _ _ _ fits.some sees none (sym (item_on shape k d j ys) ∙ sym e ∙ empty_on shape k c xs))
same_take shape k is (Empty c) (ItemAfterClose d d' j) xs ys p q e = grind (arith, open_or_closed, empty_on shape k c xs, after_on shape k d d' j ys)

-- takes whose accesses begin with those of a take begin with that take
same_first :
    (shape : Shape) (k : Count) (is : IsCount shape k) (x : Take) (ys : List Take) (b : End) (zs : List Made) → IsTake shape k.number x → AreTakes shape k.number ys b →
    take_phrase shape k x ++ zs ≡ calls_from shape k ys b → (more : List Take) × (ys ≡ x ∷ more)
same_first shape k is x [] Open zs p q e = absurd (grind (arith, ap length e, length-append (take_phrase shape k x) zs, length-append, scan, append_assoc))
same_first shape k is x [] (Closed d d') zs p q e = absurd (never_end shape k x d d' zs [] p q.0 q.1 (e ∙ sym (append-nil (end_phrase (Closed d d')))))
same_first shape k is x (y ∷ ys) b zs p q e =
    (ys, ap (λ z. z ∷ ys) (sym (same_take shape k is x y zs (calls_from shape (count_after shape k y) ys b) p q.0 (e ∙ from_take shape k y ys b))))

-- takes whose accesses begin with those of complete takes begin with these, and then continue from their count
pub first_takes :
    (shape : Shape) (k : Count) (is : IsCount shape k) (xs ys : List Take) (a b : End) (zs : List Made) → AreTakes shape k.number xs a → AreTakes shape k.number ys b →
    take_phrases shape k xs ++ zs ≡ calls_from shape k ys b →
    (more : List Take) × (ys ≡ xs ++ more) × (zs ≡ calls_from shape (taken_count shape k xs) more b) ×
    AreTakes shape (taken_count shape k xs).number [] a × AreTakes shape (taken_count shape k xs).number more b
first_takes shape k is [] ys a b zs p q e = (ys, refl, e, p, q)
first_takes shape k is (x ∷ xs) ys a b zs p q e =
    let m : Count = count_after shape k x in
    let phrase : List Made = take_phrase shape k x in
    let tail : List Made = take_phrases shape m xs ++ zs in
    let parts : phrase ++ tail ≡ calls_from shape k ys b = sym (append_assoc phrase (take_phrases shape m xs) zs) ∙ e in
    let (rest, same) = same_first shape k is x ys b tail p.0 q parts in
    let are : AreTakes shape m.number rest b = (subst (λ l. AreTakes shape k.number l b) same q).1 in
    let whole : phrase ++ tail ≡ phrase ++ calls_from shape m rest b = parts ∙ ap (λ l. calls_from shape k l b) same ∙ from_take shape k x rest b in
    let (more, f, later, last, all) =
    first_takes shape m (after_is_count shape k x is) xs rest a b zs p.1 are (append_cancel_left phrase tail (calls_from shape m rest b) whole) in
    (more, same ∙ ap (λ l. x ∷ l) f, later, last, all)

-- if a take that returns Closed comes next, it is the only one
told_calls :
    (shape : Shape) (k : Count) (a b : Takes) (end : End) (more : List Take) (zs : List Made) → a.end ≡ end → Tells end → b.takes ≡ a.takes ++ more →
    AreTakes shape k.number [] end → AreTakes shape k.number more b.end → end_phrase end ++ zs ≡ calls_from shape k more b.end → a ≡ b
told_calls shape k a b Open more zs is told f p q e = absurd told
told_calls shape k a b (Closed c c') (x ∷ more) zs is told f (none, none') q e = grind (arith, never_end, from_take)
told_calls shape k a b (Closed c c') [] zs is told f (none, none') q e = by_end b.end refl e
  where
    by_end : (end : End) → b.end ≡ end → end_phrase (Closed c c') ++ zs ≡ calls_from shape k [] end → a ≡ b
    by_end Open ends e = absurd (no_scan (row_read_by C) c _ (sym e ∙ closed_on shape k c c' zs))
    by_end (Closed d d') ends e =
        grind (arith, same_twice c c' d d' zs, closed_on shape k c c' zs, closed_first shape k d d', same_scan (row_read_by C) c' d' zs, same_calls, append-nil a.takes, ap₂)

pub takes-are_first : TakesAreFirst
takes-are_first shape a b p q begins =
    let (rest, e) = made_first C (take_program shape a) (take_program shape b) begins in
    let (more, f, later, last, all) =
    first_takes shape first_count (first_is_count shape) a.takes b.takes a.end b.end (end_phrase a.end ++ rest) p q
    (sym (append_assoc (take_phrases shape first_count a.takes) (end_phrase a.end) rest) ∙ e) in
    ((more, f), λ told. told_calls shape (taken_count shape first_count a.takes) a b a.end more rest refl told f last all later)

-- calls that begin with each other are the same
pub takes-are_read : TakesAreRead
takes-are_read shape a b p q e = grind (arith, takes-are_first, append-nil, begin_each_other, same_calls)
