-- The last writes of a row in a list of its writer's events, and what they result in.
use Rattle.std.proofs.Common.{◌≡◌, ◌⊎◌, inl, inr, ℕ, zero, suc, ◌<◌, Bool, true, false, cond, nat_eq, Some, None, List, [], ◌∷◌, ◌++◌, ◌==◌, refl, ap, sym, subst, ◌∙◌, arith, append_assoc, append-nil}
use Rattle.ring_seats.proofs.Common.{if◌then◌else◌, unwrap_or, Shape, Side, P, Bit, Cell, Event, modulus_of, IsLawful, unary_phrase, digit, digit_writes, word_write, Count}
use Rattle.std.specs.List.{cons_option}
use Rattle.std.proofs.lemmas.Bool.Decides.{nat_tests}
use Rattle.std.proofs.lemmas.List.{map-append}
use Rattle.std.proofs.lemmas.List.Elements.{filter_map-append}
use Rattle.std.proofs.Math.Nat.{mod-eq_of_lt}
use Rattle.bits_core.specs.Bits.{writer, same_bit, write_of, value_written}
use Rattle.bits_core.specs.History.{open_access, open_write, held, writes_begun}
use Rattle.bits_core.specs.Made.{Made, Read, Write, events_of, subhistory}
use Rattle.register_core.specs.Row.{RowWrite, row_bit, writes_in, bits_with, bits_after}
use Rattle.ring_seats.specs.Counters.{value_left, unary_over, NoWriteOf, AreLast, IsLastCount, IsLastItem}
use Rattle.ring_seats.proofs.Blocks.{wrote, after, after-append, last_append, left_by-made}
use Rattle.bits_core.proofs.LawLemmas.{beginning_is_lawful, held_changes, open_write_changes, subhistory_changes}
use Rattle.ring_core.proofs.Readings.Phrases.{at_or_below}
use Rattle.ring_core.proofs.LawLemmas.{counts_are_written_numbers}

-- ---- accesses that write no bit of a row

abbrev pub Spares : (ℕ → Bit) → List Made → Type 0
Spares row [] = Unit {0}
Spares row (Read b v ∷ made) = Spares row made
Spares row (Write b v ∷ made) = ((i : ℕ) → same_bit (row i) b ≡ false) × Spares row made

pub spares-append : (row : ℕ → Bit) (xs ys : List Made) → Spares row xs → Spares row ys → Spares row (xs ++ ys)
spares-append row [] ys a b = b
spares-append row (Read c v ∷ xs) ys a b = spares-append row xs ys a b
spares-append row (Write c v ∷ xs) ys a b = (a.0, spares-append row xs ys a.1 b)

-- writes to the bits of another row
pub spares_writes : (row other : ℕ → Bit) → ((i k : ℕ) → same_bit (row i) (other k) ≡ false) → (ws : List RowWrite) → Spares row (writes_in other ws)
spares_writes row other far [] = tt
spares_writes row other far (w ∷ ws) = ((λ i. far i w.bit), spares_writes row other far ws)

pub spared : (x : Side) (row : ℕ → Bit) (made : List Made) → Spares row made → NoWriteOf row (events_of x made)
spared x row [] s i = refl
spared x row (Read b v ∷ made) s i = spared x row made s i
spared x row (Write b v ∷ made) s i = ap (λ t. cons_option (if t then Some v else None) (writes_begun (row i) (events_of x made))) (s.0 i) ∙ spared x row made s.1 i

-- they leave its bits unchanged
pub spared_bits : (row : ℕ → Bit) (made : List Made) (bits : Bit → Bool) → Spares row made → (i : ℕ) → after bits made (row i) ≡ bits (row i)
spared_bits row [] bits s i = refl
spared_bits row (Read b v ∷ made) bits s i = spared_bits row made bits s i
spared_bits row (Write b v ∷ made) bits s i = spared_bits row made (wrote bits (Write b v)) s.1 i ∙ ap (λ t. if t then v else bits (row i)) (s.0 i)

-- ---- the last writes of a growing list

writes_more : (b : Bit) (xs ys : List Event) → writes_begun b (xs ++ ys) ≡ writes_begun b xs ++ writes_begun b ys
writes_more b xs ys = filter_map-append (write_of b) xs ys

none_more : (row : ℕ → Bit) (xs ys : List Event) → NoWriteOf row xs → NoWriteOf row ys → NoWriteOf row (xs ++ ys)
none_more row xs ys a b i = writes_more (row i) xs ys ∙ (λ k. a i k ++ b i k)

-- the value of the last writes, or 0 if there are none
abbrev pub IsLast : Side → (ℕ → Bit) → (List Event → List Made) → List Event → ℕ → Type 0
IsLast x row made list v = AreLast x row made list ⊎ (NoWriteOf row list × (v ≡ 0))

pub stays_last : (x : Side) (row : ℕ → Bit) (made : List Event → List Made) (list es : List Event) (v : ℕ) → NoWriteOf row es → IsLast x row made list v → IsLast x row made (list ++ es) v
stays_last x row made list es v h1 h2 = grind (arith, after, append_assoc, none_more)

pub is_last_now : (x : Side) (row : ℕ → Bit) (made : List Event → List Made) (list : List Event) → AreLast x row made (list ++ events_of x (made list))
is_last_now x row made list = record { before = list; after = []; list_is = sym (append-nil (list ++ events_of x (made list))); none = λ i. refl }

-- ---- what they result in

left_last : (x : Side) (row : ℕ → Bit) (made : List Event → List Made) (list : List Event) (a : AreLast x row made list) (i : ℕ) → value_left list (row i) ≡ after (value_left a.before) (made a.before) (row i)
left_last x row made list a i = grind (arith, append-nil, left_by-made, writes_more)

-- ---- what a bit holds while its writer has no access open

abbrev Left : Bit → List Event → Type 0
Left b h = unwrap_or (open_write b h) (held b h) ≡ value_left (subhistory (writer b) h) b

module _ (shape : Shape) (b : Bit) where
  one_left : (h : List Event) (e : Event) → IsLawful shape h → Left b h → Left b (h ++ e ∷ [])
  one_left h e lawful is = grind (arith, held_changes, last_append, open_write_changes, subhistory_changes, writes_more)

  all_left : (ys xs : List Event) → IsLawful shape (xs ++ ys) → Left b xs → Left b (xs ++ ys)
  all_left [] xs lawful is = subst (Left b) (sym (append-nil xs)) is
  all_left (e ∷ ys) xs lawful is =
      let same : (xs ++ e ∷ []) ++ ys ≡ xs ++ e ∷ ys = append_assoc xs (e ∷ []) ys in
      subst (Left b) same (all_left ys (xs ++ e ∷ []) (subst (IsLawful shape) (sym same) lawful) (one_left xs e (beginning_is_lawful shape xs (e ∷ ys) lawful) is))

  pub held_left : (h : List Event) → IsLawful shape h → open_access (writer b) h ≡ None → held b h ≡ value_left (subhistory (writer b) h) b
  held_left h lawful idle = sym (ap (λ o. unwrap_or (value_written b o) (held b h)) idle) ∙ all_left h [] lawful refl

-- ---- the bits of a row after writes to it

test_same : (i k : ℕ) (v u : Bool) → (if i == k then v else u) ≡ cond (nat_eq i k) v u
test_same i k v u = grind (arith, nat_tests)

pub row_written : (row : ℕ → Bit) → ((i k : ℕ) → same_bit (row i) (row k) ≡ (i == k)) → (ws : List RowWrite) (bits : Bit → Bool) (old : ℕ → Bool) → ((i : ℕ) → bits (row i) ≡ old i) → (i : ℕ)
    → after bits (writes_in row ws) (row i) ≡ bits_after old ws i
row_written row tells [] bits old is i = is i
row_written row tells (w ∷ ws) bits old is i =
    row_written row tells ws (wrote bits (Write (row w.bit) w.value)) (bits_with old w)
    (λ k. ap (λ t. if t then w.value else bits (row k)) (tells k w.bit) ∙ (test_same k w.bit w.value (bits (row k)) ∙ ap (λ u. cond (nat_eq k w.bit) w.value u) (is k))) i

pub row_tells : (x : Side) (i k : ℕ) → same_bit (row_bit x i) (row_bit x k) ≡ (i == k)
row_tells x i k = grind arith

-- ---- a count shows the value of its last write

-- the lowest set bit
pub record Lowest (bits : ℕ → Bool) (c : ℕ) : Type 0 where
  pub set : bits c ≡ true
  pub clear : (i : ℕ) → i < c → bits i ≡ false

unary_lowest : (shape : Shape) (old : ℕ → Bool) (v : ℕ) → v < modulus_of shape → Lowest (bits_after old (unary_phrase old v)) v
unary_lowest shape old v lt =
    let count : Count = record { number = v; bits = old } in
    let is = (counts_are_written_numbers shape).1 count 0 [] in
    subst (λ (n : ℕ). Lowest (bits_after old (unary_phrase old n)) n) (mod-eq_of_lt lt) (record { set = is.set; clear = is.clear })

lowest_same : (f g : ℕ → Bool) (c : ℕ) → ((i : ℕ) → g i ≡ f i) → Lowest f c → Lowest g c
lowest_same f g c same is = record { set = same c ∙ is.set; clear = λ i lt. same i ∙ is.clear i lt }

pub count_shows : (shape : Shape) (x : Side) (list : List Event) (c : ℕ) → c < modulus_of shape → IsLastCount x list c → Lowest (λ i. value_left list (row_bit x i)) c
count_shows shape x list c lt (inl a) =
    let old : ℕ → Bool = λ i. value_left a.before (row_bit x i) in
    lowest_same (bits_after old (unary_phrase old c)) (λ i. value_left list (row_bit x i)) c
    (λ i. left_last x (row_bit x) (λ before. unary_over x before c) list a i ∙ row_written (row_bit x) (row_tells x) (unary_phrase old c) (value_left a.before) old (λ k. refl) i)
    (unary_lowest shape old c lt)
count_shows shape x list c lt (inr t) = grind arith

-- ---- a cell shows the item last written to it

same_cell : (j i k : ℕ) → same_bit (Cell j i) (Cell j k) ≡ (i == k)
same_cell j i k = grind (arith, nat_tests)

word_written : (j item n : ℕ) (bits : Bit → Bool) (i : ℕ) → i < n → after bits (writes_in (Cell j) (digit_writes item n)) (Cell j i) ≡ digit i item
word_written j item zero bits i lt = absurd (omega (arith, lt))
word_written j item (suc n) bits i lt = grind (arith, after, after-append, at_or_below, map-append, same_cell, (word_written j item n bits i))

pub item_shows : (width j : ℕ) (list : List Event) (item : ℕ) → IsLastItem width j list item → (i : ℕ) → i < width → value_left list (Cell j i) ≡ digit i item
item_shows width j list item (inl a) i lt = left_last P (Cell j) (λ before. word_write width j item) list a i ∙ word_written j item width (value_left a.before) i lt
item_shows width j list item (inr t) i lt = grind arith
