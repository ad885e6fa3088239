-- The writer stands after the writes that it made.
use Rattle.std.proofs.Common.{rules, None, Some, ◌≡◌, ℕ, zero, suc, ◌<◌, ◌≤◌, Bool, true, false, cond, List, [], ◌∷◌, ◌++◌, Option, length, replicate, slice_set, refl, sym, ap, subst, arith, ◌∙◌, append_assoc, append-nil, get_or-set_same, get_or-set_other, length-set}
use Rattle.std.proofs.Math.Path.{fun_ext}
use Rattle.std.proofs.Math.Dec.{eqb-suc-zero}
use Rattle.register_core.proofs.Common.{map-append, Side, Bit, Access, RowWrite, row_bit, first_bits, bits_with, bits_after, writes_in}
use Rattle.std.proofs.lemmas.Bool.{cases_eq}
use Rattle.bits_core.specs.Made.{Made, Write, answered}
use Rattle.register_core.specs.Machine.{IsNext}
use Rattle.register_core.specs.Unary.{clearing, unary_phrase, unary_writes, row_writes, count_writes}
use Rattle.register_core.specs.UnaryState.{UnaryState, bit_in, new_row, due_writes, first_access, due_unary, row_with, row_fed, UnaryStands}
use Rattle.register_core.proofs.Rows.{other_bit, same_bit, bits_after-append}
use Rattle.register_core.proofs.Due.{clearing-set, clearing-clear}

-- Only the bits below the place matter.
clearing-same : (f g : ℕ → Bool) (j : ℕ) → ((k : ℕ) → k < j → f k ≡ g k) → clearing f j ≡ clearing g j
clearing-same f g zero same = refl
clearing-same f g (suc j) same =
    let e = clearing-same f g j (λ k h. same k (omega arith)) in
    let h : f j ≡ g j = same j (omega arith) in
    ap (λ b. cond b (record { bit = j; value = false } ∷ clearing f j) (clearing f j)) h ∙
    ap (λ ws. cond (g j) (record { bit = j; value = false } ∷ ws) ws) e

-- What the first write is, and what follows it.
first_is : (j : ℕ) (v : Bool) (x : RowWrite) (more rest : List RowWrite) → record { bit = j; value = v } ∷ more ≡ x ∷ rest → (j ≡ x.bit) × (x.value ≡ v) × (more ≡ rest)
first_is j v x more rest e = grind arith

-- The first of the writes that clear below a place, and what is left then.
record ClearsFirst (bits : ℕ → Bool) (j : ℕ) (x : RowWrite) (rest : List RowWrite) : Type 0 where
  below : x.bit < j
  clears : x.value ≡ false
  left : clearing (bits_with bits x) j ≡ rest

clearing-first : (bits : ℕ → Bool) (j : ℕ) (x : RowWrite) (rest : List RowWrite) → clearing bits j ≡ x ∷ rest → ClearsFirst bits j x rest
clearing-first bits zero x rest e = absurd (cc)
clearing-first bits (suc j) x rest e = split (bits j) refl (clearing-first bits j x rest)
  where
    split : (b : Bool) → bits j ≡ b → (clearing bits j ≡ x ∷ rest → ClearsFirst bits j x rest) → ClearsFirst bits (suc j) x rest
    split true h ih =
        let f = first_is j false x (clearing bits j) rest (sym (clearing-set bits j h) ∙ e) in
        let place = f.0 in
        record {
          below = omega (arith, place);
          clears = f.1;
          left =
              clearing-clear (bits_with bits x) j (same_bit bits j x.bit x.value place ∙ f.1) ∙
              clearing-same (bits_with bits x) bits j (λ k l. other_bit bits k x.bit x.value (omega (arith, l, place))) ∙ f.2;
        }
    split false h ih =
        let r = ih (sym (clearing-clear bits j h) ∙ e) in
        record {
          below = omega (arith, r.below);
          clears = r.clears;
          left = clearing-clear (bits_with bits x) j (other_bit bits j x.bit x.value (omega (arith, r.below)) ∙ h) ∙ r.left;
        }

-- Once its first write was made, the rest of a unary write is what is left to be written.
record GoesOn (bits : ℕ → Bool) (v : ℕ) (x : RowWrite) (rest : List RowWrite) : Type 0 where
  fits : x.bit ≤ v
  left : unary_phrase (bits_with bits x) v ≡ rest

phrase-first : (bits : ℕ → Bool) (v : ℕ) (x : RowWrite) (rest : List RowWrite) → unary_phrase bits v ≡ x ∷ rest → GoesOn bits v x rest
phrase-first bits v x rest e = search (rules, clearing-first, clearing-same, first_is, other_bit, same_bit, x.bit, x.value)

-- The bits of a list after a write in it.
bit_in-set : (bits : List Bool) (x : RowWrite) → x.bit < length bits →
    bit_in (slice_set bits x.bit x.value) ≡ bits_with (bit_in bits) x
bit_in-set bits x fits = grind (arith, cases_eq, fun_ext, get_or-set_other, get_or-set_same, other_bit, same_bit, x.bit, x.value)

-- The writes of one more value.
pub row_writes-more :
    (values : List ℕ) (v : ℕ) (bits : ℕ → Bool) →
    row_writes (unary_writes bits (values ++ v ∷ [])) ≡
    row_writes (unary_writes bits values) ++ unary_phrase (bits_after bits (row_writes (unary_writes bits values))) v
row_writes-more [] v bits = append-nil (unary_phrase bits v)
row_writes-more (u ∷ values) v bits = grind (arith, append_assoc, bits_after-append, (row_writes-more values v))

all_clear : (n k : ℕ) → bit_in (replicate n false) k ≡ false
all_clear zero k = refl
all_clear (suc n) zero = refl
all_clear (suc n) (suc k) = all_clear n k

new_bits : (i : ℕ) → bit_in (slice_set (replicate 256 false) 0 true) i ≡ first_bits i
new_bits zero = refl
new_bits (suc k) =
    get_or-set_other (replicate 256 false) 0 (suc k) true false (omega arith) ∙ all_clear 256 (suc k) ∙ sym (eqb-suc-zero k)

pub stands-new : (side : Side) (modulus : ℕ) → UnaryStands (new_row side modulus) [] []
stands-new side modulus = record { writes = []; made_is = refl; within = omega arith; remembered = new_bits; goes_on = refl }

-- nothing is due if no access is left
pub idle : (row : ℕ → Bit) (writes : List RowWrite) → first_access row writes ≡ None → writes ≡ []
idle row writes h1 = grind arith

pub stands-write :
    (w : UnaryState) (v : ℕ) → v < length w.bits → due_unary w ≡ None → (values : List ℕ) (made : List Made) →
    UnaryStands w values made → UnaryStands (record w { value = v }) (values ++ v ∷ []) made
stands-write w v fits none values made s = grind (arith, append-nil, fun_ext, idle, row_writes-more, s.goes_on, s.made_is, s.remembered, s.writes, w.bits, w.side)

-- one more write, as an access
one_more : (row : ℕ → Bit) (writes : List RowWrite) (x : RowWrite) → writes_in row (writes ++ x ∷ []) ≡ writes_in row writes ++ Write (row x.bit) x.value ∷ []
one_more row writes x = map-append (λ (w : RowWrite). Write (row w.bit) w.value) writes (x ∷ [])

stands-fed :
    (w : UnaryState) (values : List ℕ) (made : List Made) (x : RowWrite) (rest : List RowWrite) →
    due_writes w ≡ x ∷ rest → UnaryStands w values made → UnaryStands (row_fed w) values (made ++ Write (row_bit w.side x.bit) x.value ∷ [])
stands-fed w values made x rest e s =
    let p = phrase-first (bit_in w.bits) w.value x rest e in
    let here : x.bit < length w.bits = omega (arith, p.fits, s.within) in
    let new : bit_in (slice_set w.bits x.bit x.value) ≡ bits_with (bit_in w.bits) x = bit_in-set w.bits x here in
    let old : bit_in w.bits ≡ bits_after first_bits s.writes = fun_ext s.remembered in
    let then : bit_in (slice_set w.bits x.bit x.value) ≡ bits_after first_bits (s.writes ++ x ∷ []) = grind (arith, bits_after-append) in
    let left : unary_phrase (bit_in (slice_set w.bits x.bit x.value)) w.value ≡ rest = search arith in
    let fed_state : UnaryStands (row_with w (x ∷ rest)) values (made ++ Write (row_bit w.side x.bit) x.value ∷ []) =
    grind (arith, row_bit w.side x.bit, row_bit w.side, one_more (row_bit w.side) s.writes x, length-set w.bits x.bit x.value, append_assoc s.writes (x ∷ []) rest) in
    subst (λ ws. UnaryStands (row_with w ws) values (made ++ Write (row_bit w.side x.bit) x.value ∷ [])) (sym e) fed_state

-- the first of the writes that are due continues with the writes of the values
next-list : (row : ℕ → Bit) (writes due : List RowWrite) → IsNext (writes_in row (writes ++ due)) (writes_in row writes) (first_access row due)
next-list row writes [] = sym (ap (writes_in row) (append-nil writes))
next-list row writes (x ∷ due) = (Write (row x.bit) x.value, writes_in row due, refl, map-append (λ (w : RowWrite). Write (row w.bit) w.value) writes (x ∷ due))

pub next-stands :
    (w : UnaryState) (access : Option Access) → access ≡ due_unary w →
    (values : List ℕ) (made : List Made) → UnaryStands w values made → IsNext (count_writes w.side values) made access
next-stands w access same values made s = rw (same, s.made_is, s.goes_on) (next-list (row_bit w.side) s.writes (due_writes w))

-- What is left once the due write has been made.
pub feed-left :
    (w after : UnaryState) → w.value < length w.bits → after ≡ row_fed w →
    (x : RowWrite) (rest : List RowWrite) → due_writes w ≡ x ∷ rest → due_writes after ≡ rest
feed-left w after within same x rest e =
    let p = phrase-first (bit_in w.bits) w.value x rest e in
    let here : x.bit < length w.bits = omega (arith, p.fits, within) in
    ap due_writes same ∙ ap (λ ws. due_writes (row_with w ws)) e ∙ ap (λ f. unary_phrase f w.value) (bit_in-set w.bits x here) ∙ p.left

-- Once the due write has been made, the state stands after the list with that write.
pub feed-stands :
    (w after : UnaryState) → after ≡ row_fed w → (answer : Bool) →
    (values : List ℕ) (made : List Made) (access : Access) →
    UnaryStands w values made → due_unary w ≡ Some access → UnaryStands after values (made ++ answered access answer ∷ [])
feed-stands w after same answer values made access s due = grind (arith, stands-fed, w.side)
