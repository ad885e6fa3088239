-- The puts of a counter ring, from their lists.
use Rattle.std.proofs.Common.{rules, ◌≡◌, ℕ, zero, suc, ◌+◌, ◌%◌, ◌^◌, ◌<◌, ◌≤◌, Bool, true, false, List, [], ◌∷◌, ◌++◌, length, take, slice_index, refl, ap, sym, subst, ◌∙◌, arith, append_assoc, append-nil}
use Rattle.ring_seats.proofs.Common.{suc-mod, Shape, Side, P, Bit, X, Cell, Event, AllFit, capacity_of, modulus_of, width_of, first_value, digit_writes, word_write, zero_reads, scan_phrase}
use Rattle.ring_seats.proofs.Common.{row_read_by, Follows, value_left, unary_over}
use native.Mathlib.Decide.{dec_lt}
use Rattle.bits_core.specs.Made.{Made, Read, Write, events_of, IsPrefix}
use Rattle.register_core.specs.Row.{row_bit, first_bits}
use Rattle.ring_core.specs.Counts.{Count, first_count, number_past, count_bits, batch_phrase, LeavesRoom, LeavesRoomFor}
use Rattle.ring_core.specs.Puts.{Put, Stored, Full, Puts, stored_after, stored_count, words_phrase, put_phrase, put_phrases, close_phrase, put_program, IsPut, IsBatch}
use Rattle.ring_core.specs.ProducerCalls.{count_of, and_put, and_close}
use Rattle.ring_core.specs.OneCallMore.{HasPutMore}
use Rattle.ring_seats.specs.Calls.{HasPuts}
use Rattle.ring_seats.proofs.Blocks.{after, after-append, left_by-made, events_of-append}
use Rattle.ring_seats.proofs.LastWrites.{Spares, spares-append, spares_writes, spared_bits, row_written, row_tells}
use Rattle.ring_core.proofs.LawLemmas.{programs_by_one_call_closes, programs_by_one_call_puts}
pub use Rattle.ring_core.proofs.CountRow.{past_is}

-- ---- lists of items

pub length-first : (n : ℕ) (xs : List ℕ) → n ≤ length xs → length (take n xs) ≡ n
length-first n xs h1 = search rules

pub first_all : (n : ℕ) (xs : List ℕ) → length xs ≤ n → take n xs ≡ xs
first_all zero [] le = refl
first_all zero (x ∷ xs) le = absurd (omega (arith, le))
first_all (suc n) [] le = refl
first_all (suc n) (x ∷ xs) le = ap (λ (l : List ℕ). x ∷ l) (first_all n xs (omega (arith, le)))

pub fit_at : (shape : Shape) (xs : List ℕ) (i : ℕ) → AllFit shape xs → i < length xs → slice_index xs i < 2 ^ width_of shape
fit_at shape [] i fit lt = absurd (omega (arith, lt))
fit_at shape (x ∷ xs) zero fit lt = fit.0
fit_at shape (x ∷ xs) (suc i) fit lt = fit_at shape xs i fit.1 (omega (arith, lt))

-- ---- the words of several items

module _ (shape : Shape) where
  -- cells are determined by their numbers modulo the capacity
  pub words_same : (items : List ℕ) (n m : ℕ) → n % capacity_of shape ≡ m % capacity_of shape → words_phrase shape n items ≡ words_phrase shape m items
  words_same [] n m e = refl
  words_same (x ∷ items) n m e = λ i. word_write (width_of shape) (e i) x ++
      words_same items (suc n) (suc m) (suc-mod n (capacity_of shape) ∙ (ap (λ (k : ℕ). suc k % capacity_of shape) e ∙ sym (suc-mod m (capacity_of shape)))) i

  -- one more of them
  pub words_more : (items : List ℕ) (n i : ℕ) → i < length items → words_phrase shape n (take (suc i) items) ≡ words_phrase shape n (take i items) ++ word_write (width_of shape) ((n + i) % capacity_of shape) (slice_index items i)
  words_more [] n i lt = absurd (omega (arith, lt))
  words_more (x ∷ items) n zero lt = grind (arith, append-nil)
  words_more (x ∷ items) n (suc i) lt = grind (arith, append_assoc, (words_more items (suc n) i (omega (arith, lt))))

  -- the first ones are a prefix of all
  pub words_begin : (items : List ℕ) (n k : ℕ) → IsPrefix (words_phrase shape n (take k items)) (words_phrase shape n items)
  words_begin items n zero = (words_phrase shape n items, refl)
  words_begin [] n (suc k) = ([], refl)
  words_begin (x ∷ items) n (suc k) = grind (arith, append_assoc, (words_begin items (suc n) k))

-- ---- the value of its count that results from the producer's list

zeros_spare : (row other : ℕ → Bit) (n : ℕ) → Spares row (zero_reads other n)
zeros_spare row other zero = tt
zeros_spare row other (suc n) = spares-append row (zero_reads other n) (Read (other n) false ∷ []) (zeros_spare row other n) tt

pub scan_spares : (row other : ℕ → Bit) (c : ℕ) → Spares row (scan_phrase other c)
scan_spares row other c = spares-append row (zero_reads other c) (Read (other c) true ∷ []) (zeros_spare row other c) tt

word_spares : (width j item : ℕ) → Spares (row_bit P) (word_write width j item)
word_spares width j item = spares_writes (row_bit P) (Cell j) (λ i k. refl) (digit_writes item width)

pub words_spare : (shape : Shape) (n : ℕ) (items : List ℕ) → Spares (row_bit P) (words_phrase shape n items)
words_spare shape n [] = tt
words_spare shape n (x ∷ items) = grind (arith, spares-append, word_spares, (words_spare shape (suc n) items))

close_spares : (closes : Bool) → Spares (row_bit P) (close_phrase closes)
close_spares closes = grind arith

-- the bits of a row are these
abbrev pub RowIs : Side → (Bit → Bool) → (ℕ → Bool) → Type 0
RowIs x bits f = (i : ℕ) → bits (row_bit x i) ≡ f i

pub first_row : (x : Side) → RowIs x first_value first_bits
first_row x = grind arith

pub row_spared : (x : Side) (bits : Bit → Bool) (made : List Made) (f : ℕ → Bool) → Spares (row_bit x) made → RowIs x bits f → RowIs x (after bits made) f
row_spared x bits made f s is i = spared_bits (row_bit x) made bits s i ∙ is i

pub row_both : (x : Side) (bits : Bit → Bool) (xs ys : List Made) (f : ℕ → Bool) → RowIs x (after (after bits xs) ys) f → RowIs x (after bits (xs ++ ys)) f
row_both x bits xs ys f is i = after-append xs ys bits (row_bit x i) ∙ is i

-- so are they after several calls, each of which results in those of its count
pub row_calls :
    {A : Type 0} (x : Side) (phrase : Count → A → List Made) (next : Count → A → Count) (phrases : Count → List A → List Made) (last : Count → List A → Count) →
    ((c : Count) → phrases c [] ≡ []) → ((c : Count) (y : A) (ys : List A) → phrases c (y ∷ ys) ≡ phrase c y ++ phrases (next c y) ys) →
    ((c : Count) → last c [] ≡ c) → ((c : Count) (y : A) (ys : List A) → last c (y ∷ ys) ≡ last (next c y) ys) →
    ((bits : Bit → Bool) (c : Count) (y : A) → RowIs x bits c.bits → RowIs x (after bits (phrase c y)) (next c y).bits) →
    (calls : List A) (bits : Bit → Bool) (c : Count) → RowIs x bits c.bits → RowIs x (after bits (phrases c calls)) (last c calls).bits
row_calls x phrase next phrases last nil more stays goes each [] bits c is i = grind arith
row_calls x phrase next phrases last nil more stays goes each (y ∷ ys) bits c is i = grind (arith, (after bits (phrase c y)), (row_both x bits (phrase c y) (phrases (next c y) ys) (last (next c y) ys).bits (row_calls x phrase next phrases last nil more stays goes each ys (after bits (phrase c y)) (next c y) (each bits c y is)) i), (row_calls x phrase next phrases last nil more stays goes each ys (after bits (phrase c y)) (next c y) (each bits c y is)))

-- and in the list of a side, whose program ends with accesses that do not touch the row
pub row_left :
    (x : Side) (list : List Event) (made end : List Made) (c : Count) → list ≡ events_of x (made ++ end) → Spares (row_bit x) end → RowIs x (after first_value made) c.bits →
    RowIs x (value_left list) c.bits
row_left x list made end c list_is spares is i = grind (arith, (after first_value made), (left_by-made x (made ++ end) [] (row_bit x i)), (row_both x first_value made end c.bits (row_spared x (after first_value made) end c.bits spares is) i), (row_spared x (after first_value made) end c.bits spares is), c.bits)

-- ---- a side's list continues

module _ (x : Side) (list : List Event) (prog : List Made) (list_is : list ≡ events_of x prog) where
  list_on : (a : List Made) → list ++ events_of x a ≡ events_of x (prog ++ a)
  list_on a = ap (λ (l : List Event). l ++ events_of x a) list_is ∙ sym (events_of-append x prog a)

  -- what was made is a prefix of a program that begins with it
  pub begins : (a rest program : List Made) → program ≡ prog ++ (a ++ rest) → IsPrefix (list ++ events_of x a) (events_of x program)
  begins a rest program e = grind (arith, (append_assoc prog a rest), (events_of-append x (prog ++ a) rest), (list_on a))

  -- and if nothing is left it is that program's
  pub makes : (a program : List Made) (now : List Event) → program ≡ prog ++ a → now ≡ list ++ events_of x a → now ≡ events_of x program
  makes a program now e is = is ∙ (list_on a ∙ ap (events_of x) (sym e))

-- after accesses that do not touch its own count a side counts items
module _ (shape : Shape) (x : Side) (list now : List Event) (a : List Made) (c : Count) (is : now ≡ list ++ events_of x a) (spares : Spares (row_bit x) a) (row : RowIs x (value_left list) c.bits)
    (items : List ℕ) (new : ℕ) (next : new ≡ number_past c.number items % modulus_of shape) where
  row_now : RowIs x (value_left now) c.bits
  row_now i = ap (λ (l : List Event). value_left l (row_bit x i)) is ∙ (left_by-made x a list (row_bit x i) ∙ row_spared x (value_left list) a c.bits spares row i)

  pub counted : now ++ events_of x (unary_over x now new) ≡ list ++ events_of x (a ++ batch_phrase shape x c items)
  counted = grind (arith, append_assoc, events_of-append, row_now)

module _ (shape : Shape) where
  row_put : (bits : Bit → Bool) (c : Count) (x : Put) → RowIs P bits c.bits → RowIs P (after bits (put_phrase shape c x)) (stored_after shape c x).bits
  row_put bits c (Stored seen items) is =
      let scan : List Made = scan_phrase (row_read_by P) seen in
      let words : List Made = words_phrase shape c.number items in
      let before : List Made = scan ++ words in
      row_both P bits before (batch_phrase shape P c items) (stored_after shape c (Stored seen items)).bits
      (row_written (row_bit P) (row_tells P) (count_bits shape c items) (after bits before) c.bits
      (row_spared P bits before c.bits (spares-append (row_bit P) scan words (scan_spares (row_bit P) (row_read_by P) seen) (words_spare shape c.number items)) is))
  row_put bits c (Full seen) is = row_spared P bits (scan_phrase (row_read_by P) seen) c.bits (scan_spares (row_bit P) (row_read_by P) seen) is

  pub putter_row : (list : List Event) (calls : Puts) → HasPuts shape list calls → RowIs P (value_left list) (count_of shape calls).bits
  putter_row list calls has =
      row_left P list (put_phrases shape first_count calls.puts) (close_phrase calls.closes) (count_of shape calls) has.list_is (close_spares calls.closes)
      (row_calls P (put_phrase shape) (stored_after shape) (put_phrases shape) (stored_count shape) (λ c. refl) (λ c y ys. refl) (λ c. refl) (λ c y ys. refl) row_put calls.puts first_value first_count (first_row P))

-- ---- the list of an open putter

module _ (shape : Shape) (list : List Event) (calls : Puts) (has : HasPuts shape list calls) (opened : calls.closes ≡ false) where
  abbrev c_of : Count
  c_of = count_of shape calls

  abbrev prog : List Made
  prog = put_program shape calls

  more : (x : Put) → IsPut shape c_of.number x → HasPutMore shape calls x
  more x is = programs_by_one_call_puts shape calls x has.are opened is

  -- what was made continues to a put
  goes : (x : Put) (a rest : List Made) → IsPut shape c_of.number x → put_phrase shape c_of x ≡ a ++ rest → Follows shape P (list ++ events_of P a)
  goes x a rest is phrase =
      (and_put calls x, (more x is).are, begins P list prog has.list_is a rest (put_program shape (and_put calls x)) ((more x is).program_is ∙ ap (λ (l : List Made). prog ++ l) phrase))

  -- a complete put
  whole : (x : Put) (now : List Event) → IsPut shape c_of.number x → now ≡ list ++ events_of P (put_phrase shape c_of x) → HasPuts shape now (and_put calls x)
  whole x now is e = grind (arith, (makes P list prog has.list_is (put_phrase shape c_of x) (put_program shape (and_put calls x)) now (more x is).program_is e), (more x is))

  abbrev scan_of : ℕ → List Made
  scan_of seen = scan_phrase (row_read_by P) seen

  -- a put of the first of some items, or of none of them, may begin with any scan
  pub can_scan : (item : ℕ) (items : List ℕ) → IsBatch shape (item ∷ items) → (c : ℕ) → c < modulus_of shape → Follows shape P (list ++ events_of P (scan_phrase (row_read_by P) c))
  can_scan item items batch c lt = go (dec_lt (Rattle.ring_core.specs.Counts.distance (modulus_of shape) (c_of.number % modulus_of shape) c) (capacity_of shape))
    where
      go : Dec (LeavesRoom shape ((count_of shape calls).number % modulus_of shape) c) → Follows shape P (list ++ events_of P (scan_phrase (row_read_by P) c))
      go (yes room) = goes (Stored c (item ∷ [])) (scan_of c) (words_phrase shape c_of.number (item ∷ []) ++ batch_phrase shape P c_of (item ∷ []))
          (lt, room_one room, record { some = omega arith; few = shape.has_batch; fit = (batch.fit.0, tt) })
          (append_assoc (scan_of c) (words_phrase shape c_of.number (item ∷ [])) (batch_phrase shape P c_of (item ∷ [])))
        where
          room_one : LeavesRoom shape ((count_of shape calls).number % modulus_of shape) c → LeavesRoomFor shape ((count_of shape calls).number % modulus_of shape) c 1
          room_one r = omega (arith, r)
      go (no full) = goes (Full c) (scan_of c) [] (lt, full) (sym (append-nil (scan_of c)))

  pub full_is : (seen : ℕ) (now : List Event) → seen < modulus_of shape → ¬ LeavesRoom shape ((count_of shape calls).number % modulus_of shape) seen → now ≡ list ++ events_of P (scan_phrase (row_read_by P) seen) → HasPuts shape now (and_put calls (Full seen))
  full_is seen now lt full e = whole (Full seen) now (lt, full) e

  -- the put that stores items
  module _ (seen : ℕ) (items : List ℕ) (is : IsPut shape (count_of shape calls).number (Stored seen items)) where
    abbrev words : List Made
    words = words_phrase shape c_of.number items

    abbrev before : List Made
    before = scan_of seen ++ words

    two : (list1 : List Event) → list1 ≡ list ++ events_of P (scan_of seen) → list1 ++ events_of P words ≡ list ++ events_of P before
    two list1 e = ap (λ (l : List Event). l ++ events_of P words) e ∙ (append_assoc list (events_of P (scan_of seen)) (events_of P words) ∙ ap (λ (l : List Event). list ++ l) (sym (events_of-append P (scan_of seen) words)))

    pub can_store : (list1 : List Event) → list1 ≡ list ++ events_of P (scan_phrase (row_read_by P) seen) → Follows shape P (list1 ++ events_of P (words_phrase shape (count_of shape calls).number items))
    can_store list1 e = subst (Follows shape P) (sym (two list1 e)) (goes (Stored seen items) before (batch_phrase shape P c_of items) is refl)

    module _ (list1 list2 : List Event) (first : list1 ≡ list ++ events_of P (scan_phrase (row_read_by P) seen)) (second : list2 ≡ list1 ++ events_of P (words_phrase shape (count_of shape calls).number items))
        (new : ℕ) (next : new ≡ number_past (count_of shape calls).number items % modulus_of shape) where
      list2_is : list2 ≡ list ++ events_of P before
      list2_is = second ∙ two list1 first

      phrase_is : list2 ++ events_of P (unary_over P list2 new) ≡ list ++ events_of P (put_phrase shape c_of (Stored seen items))
      phrase_is = search (rules, counted, list2_is, putter_row, scan_spares, spares-append, words_spare)

      pub can_count : Follows shape P (list2 ++ events_of P (unary_over P list2 new))
      can_count = subst (Follows shape P) (sym phrase_is) (goes (Stored seen items) (put_phrase shape c_of (Stored seen items)) [] is (sym (append-nil (put_phrase shape c_of (Stored seen items)))))

      pub stored_is : HasPuts shape (list2 ++ events_of P (unary_over P list2 new)) (and_put calls (Stored seen items))
      stored_is = whole (Stored seen items) (list2 ++ events_of P (unary_over P list2 new)) is phrase_is

  -- the close
  closed_list : list ++ events_of P (Write X true ∷ []) ≡ events_of P (put_program shape (and_close calls))
  closed_list = makes P list prog has.list_is (Write X true ∷ []) (put_program shape (and_close calls)) (list ++ events_of P (Write X true ∷ [])) (programs_by_one_call_closes shape calls opened) refl

  pub to_close : Follows shape P (list ++ events_of P (Write X true ∷ []))
  to_close = (and_close calls, has.are, ([], append-nil (list ++ events_of P (Write X true ∷ [])) ∙ closed_list))

  pub closed_is : HasPuts shape (list ++ events_of P (Write X true ∷ [])) (and_close calls)
  closed_is = record { are = has.are; list_is = closed_list }
