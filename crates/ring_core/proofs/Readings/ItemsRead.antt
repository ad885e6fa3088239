-- The items put in a history are those of each reading of its events.
use Rattle.std.proofs.Common.{◌≡◌, ℕ, suc, true, ap₂, ◌-◌, ◌*◌, ◌<◌, ◌≤◌, Bool, List, [], ◌∷◌, ◌++◌, length, refl, sym, ap, subst, ◌∙◌, arith, inl, inr, nat_lt, if◌then◌else◌, append_assoc, append-nil, length-append}
use Rattle.ring_core.proofs.Common.{le-ltb, append_cancel_left, P, Bit, X, Cell, Shape, Made, Write, subhistory, IsPrefix, Count, first_count, batch_phrase, IsCount}
use Rattle.register_core.specs.ScanState.{scan_phrase, row_read_by}
use Rattle.ring_core.specs.Readings.{PutsAreFirst, PutsAreRead}
use Rattle.ring_core.specs.Puts.{accesses_before_count, Put, Puts, Stored, Full, stored_after, stored_count, words_phrase, put_phrase, put_phrases, close_phrase, put_program, IsPut, ArePuts}
use Rattle.ring_core.specs.Items.{events_in, items_put, ItemsAreRead}
use Rattle.ring_core.proofs.Readings.Phrases.{same_scan, scan_begins}
use Rattle.ring_core.proofs.Readings.PutsRead.{no_close, puts_stored, puts_full, no_room, some_room, NoCellFirst, count_first, same_words}
use Rattle.ring_core.proofs.CountRow.{first_is_count, counted_is_count}
use Rattle.ring_core.proofs.Readings.Cuts.{at_most_or_above, OpenBoth, BeginBoth, begin_both, begin_each_other, cut, also_begins, made_first}

-- the producer's calls starting at a count
abbrev puts_from : Shape → Count → List Put → Bool → List Made
puts_from shape c puts close = put_phrases shape c puts ++ close_phrase close

-- the accesses of a put that identify it, with the first one after them
abbrev head_of : Shape → Count → Put → List Made
head_of shape c (Stored seen items) = accesses_before_count shape c.number seen items
head_of shape c (Full seen) = scan_phrase (row_read_by P) seen

-- the accesses of a put after those
abbrev rest_of : Shape → Count → Put → List Made
rest_of shape c (Stored seen items) = batch_phrase shape P c items
rest_of shape c (Full seen) = []

-- a list of puts from the first put's head on
from_head :
    (shape : Shape) (c : Count) (x : Put) (puts : List Put) (close : Bool) →
    puts_from shape c (x ∷ puts) close ≡ head_of shape c x ++ (rest_of shape c x ++ puts_from shape (stored_after shape c x) puts close)
from_head shape c x puts close = grind (arith, append_assoc, append-nil)

-- the items of a put whose count write has begun within its first t events
abbrev items_begun : Shape → Count → Put → ℕ → List ℕ
items_begun shape c (Stored seen items) t = (if nat_lt (events_in (accesses_before_count shape c.number seen items)) t then items else [])
items_begun shape c (Full seen) t = []

-- the items put from the first put on
first_items :
    (shape : Shape) (c : Count) (x : Put) (puts : List Put) (t : ℕ) →
    items_put shape c (x ∷ puts) t ≡ items_begun shape c x t ++ items_put shape (stored_after shape c x) puts (t - events_in (put_phrase shape c x))
first_items shape c x puts t = grind arith

-- a put whose count write has not begun has put no item
not_begun : (shape : Shape) (c : Count) (x : Put) (t : ℕ) → t ≤ events_in (head_of shape c x) → items_begun shape c x t ≡ []
not_begun shape c x t l = grind (arith, le-ltb)

-- within no event no item is put
pub none_put : (shape : Shape) (c : Count) (puts : List Put) (t : ℕ) → t ≡ 0 → items_put shape c puts t ≡ []
none_put shape c [] t e = refl
none_put shape c (x ∷ puts) t e = search (arith, not_begun, first_items, append-nil, none_put shape (stored_after shape c x) puts (t - events_in (put_phrase shape c x)) (omega (arith, e)))

-- while nothing follows the first put's head no item is put
late_put :
    (shape : Shape) (c : Count) (x : Put) (puts : List Put) (t : ℕ) → t ≤ events_in (head_of shape c x) → items_put shape c (x ∷ puts) t ≡ []
late_put shape c x puts t l = grind (arith, none_put, first_items, append-nil, not_begun, length-append, length)

-- ---- two readings

-- if the events end with a start, the next access of both readings starts with the same event
abbrev AreOpen : ℕ → (made left right : List Made) → Type 0
AreOpen t made left right = suc (2 * length made) ≤ t → OpenBoth P made left right

turned : (made left right : List Made) → OpenBoth P made left right → OpenBoth P made right left
turned made left right o = grind arith

-- after the words of a put whose count write has begun in one reading, the other one too continues with no write to a cell
goes_on :
    (head after made left right : List Made) (t : ℕ) → left ≡ head ++ after → NoCellFirst after → IsPrefix made left → IsPrefix made right →
    AreOpen t made left right → events_in head < t → t ≤ suc (2 * length made) → (zs : List Made) × (head ++ zs ≡ right) × NoCellFirst zs
goes_on head after made left right t left_is none (more, e) begins both early reach =
    let (rest, made_is, ends) = cut head after made more (omega (arith, early, reach)) (e ∙ left_is) in
    by_rest rest made_is ends
  where
    by_rest : (rest : List Made) → made ≡ head ++ rest → rest ++ more ≡ after → (zs : List Made) × (head ++ zs ≡ right) × NoCellFirst zs
    by_rest [] made_is ends = grind (arith, length-append, append-nil, append_cancel_left)
    by_rest (z ∷ rest) made_is ends =
        let (later, is) = also_begins head (z ∷ rest) made right made_is begins in (
          (z ∷ rest) ++ later,
          is,
          λ j d v l begins_so.
              (let first : z ≡ Write (Cell j d) v = cc in
              none j d v (rest ++ more) (sym ends ∙ ap (λ x. x ∷ (rest ++ more)) first)),
        )

-- a close is not a scan
no_scan_first : (bit_of : ℕ → Bit) (c : ℕ) (xs zs : List Made) → Write X true ∷ zs ≡ scan_phrase bit_of c ++ xs → ⊥
no_scan_first bit_of c xs zs e = grind (arith, scan_begins bit_of c xs)

pub same_calls : (a b : Puts) → a.puts ≡ b.puts → a.closes ≡ b.closes → a ≡ b
same_calls a b p q = ap₂ (λ (x : List Put) (y : Bool). record { puts = x; closes = y }) p q

-- puts whose accesses begin with the head of a put that stores, and with no word more, begin with that put
pub same_stored :
    (shape : Shape) (c : Count) (u : ℕ) (i : List ℕ) (ys : List Put) (b : Bool) (zs : List Made) → IsCount shape c → IsPut shape c.number (Stored u i) →
    ArePuts shape c.number ys → NoCellFirst zs → head_of shape c (Stored u i) ++ zs ≡ puts_from shape c ys b → (more : List Put) × (ys ≡ Stored u i ∷ more)
same_stored shape c u i [] b zs is p q none e =
    absurd (no_close b (row_read_by P) u _ (sym e ∙ append_assoc (scan_phrase (row_read_by P) u) (words_phrase shape c.number i) zs))
same_stored shape c u i (Full v ∷ ys) b zs is (below, room, batch) ((below', full), q) none e = grind (arith, no_room, some_room, append_assoc, puts_full)
same_stored shape c u i (Stored v j ∷ ys) b zs is (below, room, batch) ((below', room', batch'), q) none e =
    let w : List ℕ → List Made = words_phrase shape c.number in
    let right : List Made = batch_phrase shape P c j ++ puts_from shape (stored_after shape c (Stored v j)) ys b in
    let scans : (u ≡ v) × (w i ++ zs ≡ w j ++ right) =
    same_scan (row_read_by P) u v _ _ (sym (append_assoc (scan_phrase (row_read_by P) u) (w i) zs) ∙ e ∙ puts_stored shape c v j ys b) in
    let items : i ≡ j = (same_words shape c.number i j zs right batch.fit batch'.fit none (count_first shape c j _ is batch') scans.1).0 in
    (ys, cc)

pub same_full :
    (shape : Shape) (c : Count) (u : ℕ) (ys : List Put) (b : Bool) (zs : List Made) → IsPut shape c.number (Full u) → ArePuts shape c.number ys →
    scan_phrase (row_read_by P) u ++ zs ≡ puts_from shape c ys b → (more : List Put) × (ys ≡ Full u ∷ more)
same_full shape c u [] b zs p q e = absurd (no_close b (row_read_by P) u _ (sym e))
same_full shape c u (Stored v j ∷ ys) b zs (below, full) ((below', room, batch), q) e = grind (arith, no_room, some_room, puts_stored)
same_full shape c u (Full v ∷ ys) b zs p q e =
    let seen : u ≡ v = (same_scan (row_read_by P) u v _ _ (e ∙ puts_full shape c v ys b)).0 in
    (ys, cc)

-- if more than the head of the first put of one reading has begun, the other reading begins with the same put
reads_first :
    (shape : Shape) (c : Count) (x : Put) (xs ys : List Put) (a b : Bool) (made : List Made) (t : ℕ) → IsCount shape c → IsPut shape c.number x →
    ArePuts shape c.number ys → IsPrefix made (puts_from shape c (x ∷ xs) a) → IsPrefix made (puts_from shape c ys b) →
    AreOpen t made (puts_from shape c (x ∷ xs) a) (puts_from shape c ys b) → events_in (head_of shape c x) < t → t ≤ suc (2 * length made) →
    (more : List Put) × (ys ≡ x ∷ more)
reads_first shape c (Stored u i) xs ys a b made t is p q l r both early reach =
    let (zs, e, none) =
    goes_on (head_of shape c (Stored u i)) _ made _ _ t (from_head shape c (Stored u i) xs a) (count_first shape c i _ is p.2) l r both early reach in
    same_stored shape c u i ys b zs is p q none e
reads_first shape c (Full u) xs ys a b made t is p q (more, e) begins both early reach =
    let scan : List Made = scan_phrase (row_read_by P) u in
    let (rest, made_is, ends) = cut scan _ made more (omega (arith, early, reach)) (e ∙ puts_full shape c u xs a) in
    let (later, f) = also_begins scan rest made (puts_from shape c ys b) made_is begins in
    same_full shape c u ys b (rest ++ later) p q f

-- after a complete put that both readings begin with
open_behind :
    (phrase rest left right : List Made) (t : ℕ) → AreOpen t (phrase ++ rest) (phrase ++ left) (phrase ++ right) → AreOpen (t - events_in phrase) rest left right
open_behind phrase rest left right t both l = grind (arith, length-append, append_cancel_left, append_assoc)

pub stored_is_count : (shape : Shape) (c : Count) (x : Put) → IsCount shape c → IsCount shape (stored_after shape c x)
stored_is_count shape c (Stored seen items) is = counted_is_count shape c items
stored_is_count shape c (Full seen) is = is

-- puts with the same first accesses put the same items within as many events
same_items :
    (shape : Shape) (c : Count) (xs ys : List Put) (a b : Bool) (made : List Made) (t : ℕ) → IsCount shape c → ArePuts shape c.number xs → ArePuts shape c.number ys →
    IsPrefix made (puts_from shape c xs a) → IsPrefix made (puts_from shape c ys b) →
    AreOpen t made (puts_from shape c xs a) (puts_from shape c ys b) → t ≤ suc (2 * length made) →
    items_put shape c xs t ≡ items_put shape c ys t
same_items shape c [] [] a b made t is p q l r both reach = refl
same_items shape c [] (y ∷ ys) a b made t is p q l r both reach =
    elim (at_most_or_above t (events_in (head_of shape c y))) [
      | inl late ↦ sym (late_put shape c y ys t late)
      | inr early ↦
          let (more, e) = reads_first shape c y ys [] b a made t is q.0 p r l (λ m. turned made _ _ (both m)) early reach in
          absurd (cc)
    ]
same_items shape c (x ∷ xs) [] a b made t is p q l r both reach =
    elim (at_most_or_above t (events_in (head_of shape c x))) [
      | inl late ↦ late_put shape c x xs t late
      | inr early ↦
          let (more, e) = reads_first shape c x xs [] a b made t is p.0 q l r both early reach in
          absurd (cc)
    ]
same_items shape c (x ∷ xs) (y ∷ ys) a b made t is p q l r both reach =
    elim (at_most_or_above t (events_in (head_of shape c x))) [
      | inl late ↦ elim (at_most_or_above t (events_in (head_of shape c y))) [
        | inl late' ↦ late_put shape c x xs t late ∙ sym (late_put shape c y ys t late')
        | inr early ↦
            let (more, e) = reads_first shape c y ys (x ∷ xs) b a made t is q.0 p r l (λ m. turned made _ _ (both m)) early reach in
            let same : x ≡ y = cc in
            absurd (omega (arith, late, early, ap (λ z. length (head_of shape c z)) same))
      ]
      | inr early ↦
          let (more, e) = reads_first shape c x xs (y ∷ ys) a b made t is p.0 q l r both early reach in
          let same : y ≡ x = cc in
          let next : Count = stored_after shape c x in
          let phrase : List Made = put_phrase shape c x in
          let are : ArePuts shape next.number ys = subst (λ z. ArePuts shape (stored_after shape c z).number ys) same q.1 in
          let begins : IsPrefix made (puts_from shape c (x ∷ ys) b) = subst (λ z. IsPrefix made (puts_from shape c (z ∷ ys) b)) same r in
          let both' : AreOpen t made (puts_from shape c (x ∷ xs) a) (puts_from shape c (x ∷ ys) b) =
          subst (λ z. AreOpen t made (puts_from shape c (x ∷ xs) a) (puts_from shape c (z ∷ ys) b)) same both in
          let after : items_put shape next xs (t - events_in phrase) ≡ items_put shape next ys (t - events_in phrase) =
          elim (at_most_or_above (length phrase) (length made)) [
            | inl whole ↦
                let left_parts : puts_from shape c (x ∷ xs) a ≡ phrase ++ puts_from shape next xs a = append_assoc phrase (put_phrases shape next xs) (close_phrase a) in
                let right_parts : puts_from shape c (x ∷ ys) b ≡ phrase ++ puts_from shape next ys b = append_assoc phrase (put_phrases shape next ys) (close_phrase b) in
                let (rest, made_is, ends) = cut phrase (puts_from shape next xs a) made l.0 whole (l.1 ∙ left_parts) in
                let (more', f) = also_begins phrase rest made (puts_from shape c (x ∷ ys) b) made_is begins in
                let ends' : rest ++ more' ≡ puts_from shape next ys b = append_cancel_left phrase (rest ++ more') (puts_from shape next ys b) (f ∙ right_parts) in
                let both'' : AreOpen t (phrase ++ rest) (phrase ++ puts_from shape next xs a) (phrase ++ puts_from shape next ys b) = grind arith in
                same_items shape next xs ys a b rest (t - events_in phrase) (stored_is_count shape c x is) p.1 are (l.0, ends) (more', ends')
                (open_behind phrase rest (puts_from shape next xs a) (puts_from shape next ys b) t both'')
                (omega (arith, reach, ap length made_is, length-append phrase rest))
            | inr longer ↦ grind (arith, none_put)
          ] in
          first_items shape c x xs t ∙ ap (λ l. items_begun shape c x t ++ l) after ∙ sym (first_items shape c x ys t)
          ∙ ap (λ z. items_put shape c (z ∷ ys) t) (sym same)
    ]

-- the items put in a history are the same whichever puts its events are read as
pub items-are_read : ItemsAreRead
items-are_read shape h a b p q =
    let both : BeginBoth P (length (subhistory P h)) (put_program shape a) (put_program shape b) = grind (arith, begin_both) in
    search (arith, same_items, first_is_count)

-- ---- complete calls that others begin with

first_put :
    (shape : Shape) (c : Count) (x : Put) (ys : List Put) (b : Bool) (tail : List Made) → IsCount shape c → IsPut shape c.number x →
    ArePuts shape c.number ys → put_phrase shape c x ++ tail ≡ puts_from shape c ys b → (more : List Put) × (ys ≡ x ∷ more)
first_put shape c (Stored u i) ys b tail is p q e =
    same_stored shape c u i ys b (batch_phrase shape P c i ++ tail) is p q (count_first shape c i tail is p.2)
    (sym (append_assoc (head_of shape c (Stored u i)) (batch_phrase shape P c i) tail) ∙ e)
first_put shape c (Full u) ys b tail is p q e = same_full shape c u ys b tail p q e

-- puts whose accesses begin with those of complete puts begin with these, and then continue from their count
pub first_puts :
    (shape : Shape) (c : Count) (xs ys : List Put) (b : Bool) (zs : List Made) → IsCount shape c → ArePuts shape c.number xs →
    ArePuts shape c.number ys → put_phrases shape c xs ++ zs ≡ puts_from shape c ys b →
    (more : List Put) × (ys ≡ xs ++ more) × (zs ≡ puts_from shape (stored_count shape c xs) more b) ×
    IsCount shape (stored_count shape c xs) × ArePuts shape (stored_count shape c xs).number more
first_puts shape c [] ys b zs is p q e = (ys, refl, e, is, q)
first_puts shape c (x ∷ xs) ys b zs is p q e =
    let next : Count = stored_after shape c x in
    let phrase : List Made = put_phrase shape c x in
    let tail : List Made = put_phrases shape next xs ++ zs in
    let parts : phrase ++ tail ≡ puts_from shape c ys b = sym (append_assoc phrase (put_phrases shape next xs) zs) ∙ e in
    let (rest, same) = first_put shape c x ys b tail is p.0 q parts in
    let are : ArePuts shape next.number rest = (subst (λ l. ArePuts shape c.number l) same q).1 in
    let whole : phrase ++ tail ≡ phrase ++ puts_from shape next rest b = grind (arith, append_assoc) in
    let (more, f, later, counted, all) = first_puts shape next xs rest b zs (stored_is_count shape c x is) p.1 are (append_cancel_left phrase tail (puts_from shape next rest b) whole) in
    (more, same ∙ ap (λ l. x ∷ l) f, later, counted, all)

-- if a close comes next, no put does
only_close : (shape : Shape) (c : Count) (more : List Put) (b : Bool) (zs : List Made) → Write X true ∷ zs ≡ puts_from shape c more b → (more ≡ []) × (b ≡ true)
only_close shape c [] b zs e = grind arith
only_close shape c (Stored u i ∷ more) b zs e = absurd (no_scan_first (row_read_by P) u _ zs (e ∙ puts_stored shape c u i more b))
only_close shape c (Full u ∷ more) b zs e = absurd (no_scan_first (row_read_by P) u _ zs (e ∙ puts_full shape c u more b))

first_calls :
    (shape : Shape) (a b : Puts) (zs : List Made) → ArePuts shape 0 a.puts → ArePuts shape 0 b.puts → put_program shape a ++ zs ≡ put_program shape b →
    ((more : List Put) × (b.puts ≡ a.puts ++ more)) × (a.closes ≡ true → a ≡ b)
first_calls shape a b zs p q e =
    let front : List Made = put_phrases shape first_count a.puts in
    let (more, f, g, is, are) =
    first_puts shape first_count a.puts b.puts b.closes (close_phrase a.closes ++ zs) (first_is_count shape) p q
    (sym (append_assoc front (close_phrase a.closes) zs) ∙ e) in (
      (more, f),
      λ closes.
          (let (none, both) = only_close shape (stored_count shape first_count a.puts) more b.closes zs (ap (λ t. close_phrase t ++ zs) (sym closes) ∙ g) in
          let puts : b.puts ≡ a.puts = f ∙ ap (λ l. a.puts ++ l) none ∙ append-nil a.puts in
          let same : a.closes ≡ b.closes = closes ∙ sym both in
          same_calls a b (sym puts) same),
    )

pub puts-are_first : PutsAreFirst
puts-are_first shape a b p q begins = grind (arith, made_first P (put_program shape a) (put_program shape b) begins, first_calls)

-- puts that begin with each other are the same
pub puts-are_read : PutsAreRead
puts-are_read shape a b p q e = grind (arith, puts-are_first, append-nil, begin_each_other, same_calls)
