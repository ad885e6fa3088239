-- The access that a call under way continues with is the only one: what a call does is a decision tree, along which its accesses go.
use Rattle.std.proofs.Common.{◌≡◌, inl, inr, ℕ, zero, suc, ◌+◌, ◌-◌, ◌%◌, ◌<◌, ◌≤◌, Bool, true, false, cond, ◌&&◌, min, nat_lt, nat_le, List, [], ◌∷◌, ◌++◌, length, take, refl, sym, ap, subst, ◌∙◌, arith, append_assoc, append-nil}
use Rattle.ring_core.proofs.Common.{nat_tests, R, X, Cell, P, C, Access, Shape, capacity_of, modulus_of, width_of, distance, Count, first_count, count_bits, batch_phrase, IsCount, Stored, Full}
use Rattle.ring_core.proofs.Common.{words_phrase, put_phrase, put_phrases, put_program, IsPut, ArePuts, IsTakeOf, TakeGoesOn, count_taken}
use Rattle.bits_core.specs.declared.events.Access.TheVariants as begins
use Rattle.bits_core.specs.Made.{Made, Read, Write, access_of, answered, IsPrefix}
use Rattle.register_core.specs.Phrases.{bits_after, row_bit, unary_phrase, writes_in}
use Rattle.register_core.specs.Row.{RowWrite}
use Rattle.register_core.specs.Word.{digit, word_read}
use Rattle.register_core.specs.ScanState.{scan_phrase, row_read_by}
use Rattle.ring_core.proofs.CountRow.{past_is, bits_long, take_batch_below}
use Rattle.ring_core.specs.Puts as puts
use Rattle.ring_core.specs.Takes.{Take, Takes, End, Item, ItemAfterClose, Empty, Open, Closed, count_after, words_read, items_phrase, take_phrase, take_phrases, end_phrase, take_program, IsTake, IsTakeBatch, SeesItems, SeesNone, AreTakes}
use Rattle.ring_core.specs.ProducerState.{Call, Put, Close}
use Rattle.ring_core.specs.ProducerCalls.{count_of, room_in, and_close, IsPutOf, PutGoesOn}
use Rattle.ring_core.specs.GoingOn.{EndInCellRead, ReadsFirstDigit, WritesTakeCount, PutsGoOnByOne, TakesGoOnByOne}
use Rattle.ring_core.proofs.Machines.PutCalls as put_calls
use Rattle.ring_core.proofs.Machines.TakeCalls as take_calls
use Rattle.ring_core.proofs.Machines.TakeCalls.{zeros, zeros-long}
use Rattle.ring_core.proofs.Machines.Trees.{Tree, Ends, Asks, Along, Anyway, never, next_along, makes, makes_along, makes_whole, scans, scan_along, digits, digits_begin, digits_along}
use Rattle.ring_core.proofs.Readings.TakesFirst.{scan, calls_from}
use Rattle.ring_core.proofs.Readings.Phrases.{joined}
use Rattle.ring_core.proofs.Readings.TakesRead.{digits_first, after_is_count}
use Rattle.ring_core.proofs.Readings.Over.{first_takes}

pub access_back : (a : Access) (answer : Bool) → access_of (answered a answer) ≡ a
access_back a answer = grind arith

-- lists that begin with the same accesses and go along one tree have the same next access
same_next :
    (made xs ys : List Made) (a b : Access) (t : Tree) → Anyway never xs t → Anyway never ys t → IsPrefix (made ++ answered a true ∷ []) xs →
    IsPrefix (made ++ answered b true ∷ []) ys → a ≡ b
same_next made xs ys a b t go go' (rest, e) (rest', e') =
    let go : Along never [] (made ++ answered a true ∷ rest) t = subst (λ l. Along never [] l t) (sym e ∙ append_assoc made (answered a true ∷ []) rest) (go []) in
    let go' : Along never [] (made ++ answered b true ∷ rest') t = subst (λ l. Along never [] l t) (sym e' ∙ append_assoc made (answered b true ∷ []) rest') (go' []) in
    elim (next_along never [] made (answered a true) (answered b true) rest rest' t (λ before c bad. bad) go go') [
      | inl same ↦ grind (arith, access_back)
      | inr bad ↦ absurd bad
    ]

-- ---- puts

-- what a put of items does after a scan: it stores those for which the value read leaves room
abbrev stores : Shape → Count → List ℕ → ℕ → List Made
stores shape c items seen = words_phrase shape c.number (take (room_in shape (c.number % modulus_of shape) seen) items) ++
    batch_phrase shape P c (take (room_in shape (c.number % modulus_of shape) seen) items)

abbrev put_tree : Shape → Count → List ℕ → Tree
put_tree shape c items = scans (row_read_by P) (modulus_of shape) (λ seen. makes (stores shape c items seen) Ends)

put_along : (shape : Shape) (c : Count) (items : List ℕ) (x : puts.Put) → IsPut shape c.number x → IsPutOf shape c.number items x → Anyway never (put_phrase shape c x) (put_tree shape c items)
put_along shape c items (Stored seen stored) is of =
    let go : Anyway never (scan_phrase (row_read_by P) seen ++ stores shape c items seen) (put_tree shape c items) =
    scan_along never (row_read_by P) (modulus_of shape) seen (λ seen. makes (stores shape c items seen) Ends) (stores shape c items seen) is.0 (makes_whole never (stores shape c items seen)) in
    rw (append_assoc (scan_phrase (row_read_by P) seen), of) go
put_along shape c items (Full seen) is of =
    subst (λ l. Anyway never l (put_tree shape c items)) (append-nil (scan_phrase (row_read_by P) seen))
    (scan_along never (row_read_by P) (modulus_of shape) seen (λ seen. makes (stores shape c items seen) Ends) [] is.0 (λ before. tt))

-- what a call does after these puts
abbrev call_tree : Shape → puts.Puts → Call → Tree
call_tree shape calls (Put items) = makes (put_phrases shape first_count calls.puts) (put_tree shape (count_of shape calls) items)
call_tree shape calls Close = makes (put_program shape (and_close calls)) Ends

put_goes :
    (shape : Shape) (calls : puts.Puts) (c : Call) (made : List Made) (a : Access) → PutGoesOn shape calls c made a →
    (xs : List Made) × Anyway never xs (call_tree shape calls c) × IsPrefix (made ++ answered a true ∷ []) xs
put_goes shape calls (Put items) made a goes =
    let (more, (x, of, more_is, are, open_still), begins_x) = goes true (λ due. refl) in
    let is = put_calls.are-last shape first_count calls.puts x (subst (λ (m : puts.Puts). ArePuts shape 0 m.puts) more_is are) in (
      put_phrases shape first_count calls.puts ++ put_phrase shape (count_of shape calls) x,
      makes_along never (put_phrases shape first_count calls.puts) (put_phrase shape (count_of shape calls) x)
          (put_tree shape (count_of shape calls) items) (put_along shape (count_of shape calls) items x is of),
      subst (λ l. IsPrefix (made ++ answered a true ∷ []) l) (ap (put_program shape) more_is ∙ put_calls.program-push shape calls x) begins_x,
    )
put_goes shape calls Close made a goes =
    let (more, (more_is, are, open_still), begins_x) = goes true (λ due. refl) in
    (put_program shape (and_close calls), makes_whole never (put_program shape (and_close calls)), grind arith)

pub puts-go_on_by_one : PutsGoOnByOne
puts-go_on_by_one shape calls c made a b goes goes' =
    let (xs, go, begins) = put_goes shape calls c made a goes in
    search (arith, put_goes shape calls c made b goes', same_next)

-- ---- takes

-- the count after items, by the number that follows them
abbrev count_at : Shape → Count → ℕ → Count
count_at shape k n = record { number = n; bits = bits_after k.bits (unary_phrase k.bits (n % modulus_of shape)) }

-- the write of the count after m items, and what comes next
abbrev count_tree : Shape → Count → ℕ → (Count → Tree) → Tree
count_tree shape k m next = makes (writes_in (row_bit C) (unary_phrase k.bits ((k.number + m) % modulus_of shape))) (next (count_at shape k (k.number + m)))

-- the words of m items
abbrev words : Shape → (n m : ℕ) → Tree → Tree
words shape n zero t = t
words shape n (suc m) t = digits (n % capacity_of shape) (width_of shape) (words shape (suc n) m t)

-- the accesses begin with a write of the count
abbrev CountsFirst : List Made → Type 0
CountsFirst xs = (i : ℕ) × (v : Bool) × (rest : List Made) × (xs ≡ Write (R i) v ∷ rest)

row_first : (writes : List RowWrite) (behind : List Made) → 1 ≤ length writes → CountsFirst (writes_in (row_bit C) writes ++ behind)
row_first [] behind some = absurd (omega (arith, some))
row_first (w ∷ writes) behind some = (w.bit, w.value, writes_in (row_bit C) writes ++ behind, refl)

-- the tree begins with one
abbrev AsksCount : Tree → Type 0
AsksCount t = (i : ℕ) × (v : Bool) × (next : Bool → Tree) × (t ≡ Asks (begins.Write (R i) v) next)

row_asked : (writes : List RowWrite) (t : Tree) → 1 ≤ length writes → AsksCount (makes (writes_in (row_bit C) writes) t)
row_asked [] t some = absurd (omega (arith, some))
row_asked (w ∷ writes) t some = (w.bit, w.value, (λ v. makes (writes_in (row_bit C) writes) t), refl)

-- words begin with the first digit of a cell
first_digit :
    (shape : Shape) (n item : ℕ) (items : List ℕ) (behind : List Made) →
    (rest : List Made) × (words_read shape n (item ∷ items) ++ behind ≡ Read (Cell (n % capacity_of shape) 0) (digit 0 item) ∷ rest)
first_digit shape n item items behind =
    let word : List Made = word_read (width_of shape) (n % capacity_of shape) item in
    let (rest, e) = digits_first (n % capacity_of shape) item (width_of shape) shape.has_digits in
    let more : List Made = words_read shape (suc n) items in
    (rest ++ (more ++ behind), append_assoc word more behind ∙ ap (λ l. l ++ (more ++ behind)) e)

-- how many items a take of at most `wanted` items takes after a scan that shows some
abbrev many : Shape → (wanted k seen : ℕ) → ℕ
many shape wanted k seen = suc (min (wanted - 1) (distance (modulus_of shape) seen (k % modulus_of shape) - 1))

-- Where n items are taken and the tree says m: after a word, the tree counts and the take reads on, or the other way around.
abbrev MayPart : (part : List Made → Access → Access → Type 0) → (m n : ℕ) → Type 0
MayPart part m n =
    (before : List Made) (a b : Access) → EndInCellRead before →
    (m < n → WritesTakeCount a → ReadsFirstDigit b → part before a b) × (n < m → ReadsFirstDigit a → WritesTakeCount b → part before a b)

-- where a take may part from the tree of one of at most `wanted` items
abbrev pub Allowed : (part : List Made → Access → Access → Type 0) → Shape → (wanted k : ℕ) → Take → Type 0
Allowed part shape wanted k (Item seen items) = MayPart part (many shape wanted k seen) (length items)
Allowed part shape wanted k (ItemAfterClose seen again items) = MayPart part (many shape wanted k again) (length items)
Allowed part shape wanted k (Empty seen) = Unit {0}

module _ (shape : Shape) (wanted : ℕ) where
  -- a scan shows an item
  abbrev shows : Count → ℕ → Bool
  shows k seen = nat_lt 0 (distance (modulus_of shape) seen (k.number % modulus_of shape)) && nat_le (distance (modulus_of shape) seen (k.number % modulus_of shape)) (capacity_of shape)

  -- what a take does after a scan
  abbrev looks : Count → (Count → Tree) → Tree → ℕ → Tree
  looks k next none seen = cond (shows k seen) (words shape k.number (many shape wanted k.number seen) (count_tree shape k (many shape wanted k.number seen) next)) none

  -- if the first scan shows none
  abbrev asks : Count → (Count → Tree) → Tree
  asks k next = Asks (begins.Read X) (λ closed. cond closed (scans (row_read_by C) (modulus_of shape) (looks k next Ends)) (next k))

  abbrev take_tree : Count → (Count → Tree) → Tree
  take_tree k next = scans (row_read_by C) (modulus_of shape) (looks k next (asks k next))

  -- n takes
  abbrev pub takes_tree : (n : ℕ) → Count → Tree
  takes_tree zero k = Ends
  takes_tree (suc n) k = take_tree k (takes_tree n)

  module _ (part : List Made → Access → Access → Type 0) where
    -- words of both, after a word
    words_along :
        (n m : ℕ) (items : List ℕ) (t : Tree) (ys : List Made) → (m ≡ length items → Anyway part ys t) → MayPart part m (length items) → (m < length items → AsksCount t) → CountsFirst ys →
        (before : List Made) → EndInCellRead before → Along part before (words_read shape n items ++ ys) (words shape n m t)
    words_along n zero [] t ys on may counts first before is = on refl before
    words_along n zero (item ∷ items) t ys on may counts first before is =
        let (i, v, next, e) = counts (omega arith) in
        let (rest, f) = first_digit shape n item items ys in
        rw (e, f) (inr ((may before _ _ is).0 (omega arith) (i, v, refl) (n % capacity_of shape, refl)))
    words_along n (suc m) [] t ys on may counts (i, v, rest, f) before is =
        let (next, e) = digits_begin (n % capacity_of shape) (width_of shape) (words shape (suc n) m t) shape.has_digits in
        rw (e, f) (inr ((may before _ _ is).1 (omega arith) (n % capacity_of shape, refl) (i, v, refl)))
    words_along n (suc m) (item ∷ items) t ys on may counts first before is =
        rw append_assoc
        (digits_along part (n % capacity_of shape) item (width_of shape) (words shape (suc n) m t) (words_read shape (suc n) items ++ ys)
        (words_along (suc n) m items t ys (λ e. on (ap suc e)) (λ before a b is. ((λ l. (may before a b is).0 (omega (arith, l))), (λ l. (may before a b is).1 (omega (arith, l)))))
        (λ l. counts (omega (arith, l))) first) shape.has_digits before)

    -- items after a scan that shows them
    some_along :
        (k : Count) (seen : ℕ) (items : List ℕ) (next : Count → Tree) (none : Tree) (ys : List Made) → IsCount shape k → SeesItems shape k.number seen (length items) → IsTakeBatch shape items →
        MayPart part (many shape wanted k.number seen) (length items) → Anyway part ys (next (count_after shape k (Item seen items))) →
        Anyway part (items_phrase shape k items ++ ys) (looks k next none seen)
    some_along k seen [] next none ys is sees batch may on before = absurd (omega (arith, batch.some))
    some_along k seen (item ∷ items) next none ys is (below, few, room) batch may on before =
        let m : ℕ = min (wanted - 1) (distance (modulus_of shape) seen (k.number % modulus_of shape) - 1) in
        let count : List Made = batch_phrase shape C k (item ∷ items) in
        let tree : Tree = count_tree shape k (suc m) next in
        let is_shown : shows k seen ≡ true = grind (arith, nat_tests, batch.some) in
        let counted : m ≡ length items → Anyway part (count ++ ys) tree =
        λ e. rw (e, ← past_is k.number (item ∷ items)) (makes_along part count ys (next (count_after shape k (Item seen (item ∷ items)))) on) in
        let some : m < length items → 1 ≤ length (unary_phrase k.bits ((k.number + suc m) % modulus_of shape)) =
        λ l. grind (arith, bits_long shape k (zeros (suc m)) is, past_is, zeros-long, batch.few, take_batch_below) in
        rw (
          is_shown,
          append_assoc (words_read shape k.number (item ∷ items)) count ys,
          append_assoc (word_read (width_of shape) (k.number % capacity_of shape) item) (words_read shape (suc k.number) items) (count ++ ys),
        )
        (digits_along part (k.number % capacity_of shape) item (width_of shape) (words shape (suc k.number) m tree) (words_read shape (suc k.number) items ++ (count ++ ys))
        (words_along (suc k.number) m items tree (count ++ ys) counted (λ before a b is. ((λ l. (may before a b is).0 (omega (arith, l))), (λ l. (may before a b is).1 (omega (arith, l)))))
        (λ l. row_asked (unary_phrase k.bits ((k.number + suc m) % modulus_of shape)) (next (count_at shape k (k.number + suc m))) (some l))
        (row_first (count_bits shape k (item ∷ items)) ys (bits_long shape k (item ∷ items) is batch.some (omega (arith, batch.few, take_batch_below shape))))) shape.has_digits before)

    -- what comes after a scan that shows none
    none_along : (k : Count) (seen : ℕ) (next : Count → Tree) (none : Tree) (ys : List Made) → SeesNone shape k.number seen → Anyway part ys none → Anyway part ys (looks k next none seen)
    none_along k seen next none ys (below, no_item) on = let none_shown : shows k seen ≡ false = grind (arith, nat_tests) in rw none_shown on

    -- a scan, and what comes after it
    scanned : (k : Count) (seen : ℕ) (next : Count → Tree) (none : Tree) (ys : List Made) → seen < modulus_of shape → Anyway part ys (looks k next none seen) →
        Anyway part (scan seen ++ ys) (scans (row_read_by C) (modulus_of shape) (looks k next none))
    scanned k seen next none = scan_along part (row_read_by C) (modulus_of shape) seen (looks k next none)

    -- a take, and what comes after it
    take_along :
        (k : Count) (x : Take) (next : Count → Tree) (ys : List Made) → IsCount shape k → IsTake shape k.number x → Allowed part shape wanted k.number x →
        Anyway part ys (next (count_after shape k x)) → Anyway part (take_phrase shape k x ++ ys) (take_tree k next)
    take_along k (Item seen items) next ys is (sees, batch) may on =
        rw (append_assoc (scan seen) (items_phrase shape k items) ys)
        (scanned k seen next (asks k next) (items_phrase shape k items ++ ys) sees.0 (some_along k seen items next (asks k next) ys is sees batch may on))
    take_along k (ItemAfterClose seen again items) next ys is (none, sees, batch) may on =
        let rest : List Made = scan again ++ (items_phrase shape k items ++ ys) in
        rw (joined (scan seen) (Read X true ∷ scan again) (items_phrase shape k items) ys)
        (scanned k seen next (asks k next) (Read X true ∷ rest) none.0 (none_along k seen next (asks k next) (Read X true ∷ rest) none
        (λ before. inl (refl, scanned k again next Ends (items_phrase shape k items ++ ys) sees.0 (some_along k again items next Ends ys is sees batch may on) (before ++ Read X true ∷ [])))))
    take_along k (Empty seen) next ys is none may on =
        rw (append_assoc (scan seen) (Read X false ∷ []) ys)
        (scanned k seen next (asks k next) (Read X false ∷ ys) none.0 (none_along k seen next (asks k next) (Read X false ∷ ys) none (λ before. inl (refl, on (before ++ Read X false ∷ [])))))

    -- a take that returns Closed
    end_along :
        (k : Count) (seen again : ℕ) (next : Count → Tree) → SeesNone shape k.number seen → SeesNone shape k.number again → Anyway part (end_phrase (Closed seen again)) (take_tree k next)
    end_along k seen again next none none' =
        scanned k seen next (asks k next) (Read X true ∷ scan again) none.0 (none_along k seen next (asks k next) (Read X true ∷ scan again) none
        (λ before. inl (refl, rw (← append-nil (scan again)) (scanned k again next Ends [] none'.0 (none_along k again next Ends [] none' (λ before. tt)) (before ++ Read X true ∷ [])))))

    -- takes, each of which parts from the tree only where it may
    pub takes_along :
        (n : ℕ) (k : Count) (xs : List Take) (end : End) → length xs < n → IsCount shape k → AreTakes shape k.number xs end →
        ((k : ℕ) (x : Take) → IsTake shape k x → Allowed part shape wanted k x) → Anyway part (calls_from shape k xs end) (takes_tree n k)
    takes_along zero k xs end l is are may = absurd (omega (arith, l))
    takes_along (suc n) k [] Open l is are may = λ before. tt
    takes_along (suc n) k [] (Closed seen again) l is (none, none') may = end_along k seen again (takes_tree n) none none'
    takes_along (suc n) k (x ∷ xs) end l is (here, are) may =
        rw (append_assoc (take_phrase shape k x))
        (take_along k x (takes_tree n) (calls_from shape (count_after shape k x) xs end) is here (may k.number x here)
        (takes_along n (count_after shape k x) xs end (omega (arith, l)) (after_is_count shape k x is) are may))

-- one that is of at most `wanted` items takes what the tree says
wanted_allowed : (shape : Shape) (wanted k : ℕ) (x : Take) → IsTake shape k x → IsTakeOf shape k wanted x → Allowed never shape wanted k x
wanted_allowed shape wanted k (Item seen items) (sees, batch) of = λ before a b is. grind (arith, batch.some)
wanted_allowed shape wanted k (ItemAfterClose seen again items) (none, sees, batch) of = λ before a b is. grind (arith, batch.some)
wanted_allowed shape wanted k (Empty seen) is of = record {}

-- a take that goes on, after those before it
pub take_goes :
    (shape : Shape) (wanted : ℕ) (calls : Takes) (made : List Made) (a : Access) → TakeGoesOn shape wanted calls made a →
    (end : End) × AreTakes shape 0 calls.takes end × (xs : List Made) ×
    ((n : ℕ) → Anyway never xs (takes_tree shape wanted (suc n) (count_taken shape calls))) × IsPrefix (made ++ answered a true ∷ []) (take_phrases shape first_count calls.takes ++ xs)
take_goes shape wanted calls made a goes =
    let (more, has, begins_x) = goes true (λ due. refl) in
    let k : Count = count_taken shape calls in
    elim has.is_one_more [
      | inl (x, of, more_is) ↦
          let are : AreTakes shape 0 (calls.takes ++ x ∷ []) Open = subst (λ (m : Takes). AreTakes shape 0 m.takes m.end) more_is has.are in
          let is = take_calls.are-last shape first_count calls.takes x are in (
            Open,
            first_takes shape first_count calls.takes (x ∷ []) Open are,
            take_phrase shape k x,
            (λ n. subst (λ l. Anyway never l (takes_tree shape wanted (suc n) k)) (append-nil (take_phrase shape k x))
                (take_along shape wanted never k x (takes_tree shape wanted n) [] (take_calls.calls_are_count shape calls) is (wanted_allowed shape wanted k.number x is of) (λ before. tt))),
            subst (λ l. IsPrefix (made ++ answered a true ∷ []) l) (ap (take_program shape) more_is ∙ take_calls.program-push shape calls x) begins_x,
          )
      | inr (seen, again, more_is) ↦
          let are : AreTakes shape 0 calls.takes (Closed seen again) = subst (λ (m : Takes). AreTakes shape 0 m.takes m.end) more_is has.are in
          let (none, none') = take_calls.end-sees_none shape first_count calls.takes seen again are in (
            Closed seen again,
            are,
            end_phrase (Closed seen again),
            (λ n. end_along shape wanted never k seen again (takes_tree shape wanted n) none none'),
            subst (λ l. IsPrefix (made ++ answered a true ∷ []) l) (ap (take_program shape) more_is) begins_x,
          )
    ]

pub takes-go_on_by_one : TakesGoOnByOne
takes-go_on_by_one shape wanted calls made a b goes goes' =
    let (end, are, xs, go, begins) = take_goes shape wanted calls made a goes in
    let (end', are', ys, go', begins') = take_goes shape wanted calls made b goes' in
    let front : List Made = take_phrases shape first_count calls.takes in
    let t : Tree = takes_tree shape wanted 1 (count_taken shape calls) in
    same_next made (front ++ xs) (front ++ ys) a b (makes front t) (makes_along never front xs t (go 0)) (makes_along never front ys t (go' 0)) begins begins'
