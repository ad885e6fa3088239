-- What the machines that both sides are made of have due next.
use Rattle.std.proofs.Common.{◌≡◌, ℕ, zero, suc, ◌%◌, ◌<◌, ◌≤◌, Bool, true, false, cond, IfSome, Option, Some, None, List, [], ◌∷◌, ◌++◌, length, refl, sym, ap, subst, ◌∙◌, arith, append_assoc, append-nil, length-append}
use Rattle.ring_core.proofs.Common.{mod-lt, append_cancel_left, nat_tests, Side, Bit, Access, Shape, modulus_of, IsNext, LastBitIsDue, IsScanning}
use Rattle.bits_core.specs.declared.events.Access.TheVariants as begins
use Rattle.bits_core.specs.Open.{IsOpenRight}
use Rattle.bits_core.specs.Made.{Made, Read, access_of, answered, IsPrefix}
use Rattle.register_core.specs.Row.{RowWrite, row_bit}
use Rattle.register_core.specs.ScanState.{ScanState, ScanStands, BeginsScan, zero_reads, row_read_by, due_scan}
use Rattle.register_core.specs.Unary.{clearing, unary_phrase, count_writes}
use Rattle.register_core.specs.UnaryState.{UnaryState, bit_in, due_writes, due_unary, first_access}

-- ---- beginnings

-- a prefix of a list begins the list with more after it
pub begins_more : (part whole more : List Made) → IsPrefix part whole → IsPrefix part (whole ++ more)
begins_more part whole more (rest, e) = (rest ++ more, sym (append_assoc part rest more) ∙ ap (λ l. l ++ more) e)

-- and the same with the same list before both
pub begins_behind : (front part whole : List Made) → IsPrefix part whole → IsPrefix (front ++ part) (front ++ whole)
begins_behind front part whole (rest, e) = (rest, append_assoc front part rest ∙ ap (λ l. front ++ l) e)

-- a list of accesses that can continue is shorter than what it is a prefix of
pub length-part : (made rest whole : List Made) (y : Made) → (made ++ y ∷ []) ++ rest ≡ whole → length made < length whole
length-part made rest whole y e = omega (arith, ap length e, length-append (made ++ y ∷ []) rest, length-append made (y ∷ []))

-- ---- the scan

-- the read that a scan under way has due
pub scan_due : (side : Side) (modulus : ℕ) (s : ScanState) → IsScanning side modulus s → due_scan s ≡ Some (begins.Read (row_read_by side s.zeros))
scan_due side modulus s is = grind arith

pub scan_reads :
    (side : Side) (modulus : ℕ) (s : ScanState) (reads : List Made) → IsScanning side modulus s → ScanStands s reads →
    reads ≡ zero_reads (row_read_by side) s.zeros
scan_reads side modulus s reads is stands = grind arith

-- it continues whatever the read returns, except for a 0 of the last bit
pub scan_goes_on :
    (shape : Shape) (side : Side) (s : ScanState) (reads : List Made) (answer : Bool) → IsScanning side (modulus_of shape) s → ScanStands s reads →
    (LastBitIsDue shape side (Some (begins.Read (row_read_by side s.zeros))) → answer ≡ true) →
    BeginsScan (row_read_by side) (modulus_of shape) (reads ++ Read (row_read_by side s.zeros) answer ∷ [])
scan_goes_on shape side s reads true is stands one = grind (arith, append-nil, scan_reads)
scan_goes_on shape side s reads false is stands one =
    let zero_read : List Made = Read (row_read_by side s.zeros) false ∷ [] in
    let last : List Made = Read (row_read_by side (suc s.zeros)) true ∷ [] in
    let not_last : (suc s.zeros ≡ modulus_of shape) → ⊥ = (λ l. absurd (let w : false ≡ true = one (s.zeros, refl, l) in cc)) in
    (suc s.zeros, grind (arith, not_last, is.below), (last, ap (λ l. (l ++ zero_read) ++ last) (scan_reads side (modulus_of shape) s reads is stands)))

-- ---- writes

-- the due write of a phrase, once made, is the next of the phrase
pub answered_write : (x : Made) (access : Access) (b : Bit) (v answer : Bool) → access_of x ≡ access → access ≡ begins.Write b v → answered access answer ≡ x
answered_write x access b v answer e f = grind arith

-- what is due of writes to a row is a write
first_writes :
    (bit_of : ℕ → Bit) (writes : List RowWrite) (due : Option Access) → due ≡ first_access bit_of writes → (due ≡ None → ⊥) →
    (b : Bit) × (v : Bool) × (due ≡ Some (begins.Write b v))
first_writes bit_of writes due e some = grind arith

-- what is due of a count write under way is one of its writes; once that was made, the rest of them follows
pub record NextWrite (due : Option Access) (writes count : List Made) : Type 0 where
  pub access : Access
  pub due_is : due ≡ Some access
  pub rest : List Made
  pub goes_on : (answer : Bool) → (writes ++ answered access answer ∷ []) ++ rest ≡ count

pub next_write :
    (side : Side) (row : UnaryState) (values : List ℕ) (old writes count : List Made) (due : Option Access) → row.side ≡ side → (due_unary row ≡ None → ⊥) →
    due ≡ due_unary row → IsNext (count_writes row.side values) (old ++ writes) due → count_writes side values ≡ old ++ count → NextWrite due writes count
next_write side row values old writes count due of_side some due_is next all =
    let (b, v, due_some) = first_writes (row_bit row.side) (due_writes row) due due_is (λ f. some (sym due_is ∙ f)) in
    let access : Access = begins.Write b v in
    let (x, rest, x_is, whole) =
    subst (λ d. IsNext (count_writes side values) (old ++ writes) d) due_some (subst (λ s. IsNext (count_writes s values) (old ++ writes) due) of_side next) in
    let count_is : writes ++ x ∷ rest ≡ count = grind (arith, append_cancel_left, append_assoc) in
    record {
      access = access;
      due_is = due_some;
      rest = rest;
      goes_on = λ answer.
          append_assoc writes (answered access answer ∷ []) rest ∙ ap (λ z. writes ++ z ∷ rest) (answered_write x access b v answer x_is refl) ∙ count_is;
    }

-- ---- whose access is due

-- a side's own accesses to bits of the shape
pub scan_bit_right : (shape : Shape) (side : Side) (i : ℕ) → i < modulus_of shape → IsOpenRight shape side (begins.Read (row_read_by side i))
scan_bit_right shape side i l = grind (arith, nat_tests)

pub row_bit_right : (shape : Shape) (side : Side) (i : ℕ) (v : Bool) → i < modulus_of shape → IsOpenRight shape side (begins.Write (row_bit side i) v)
row_bit_right shape side i v l = grind (arith, nat_tests)

-- the read that a scan under way has due is such an access
pub scan_right :
    (shape : Shape) (side : Side) (s : ScanState) (due : Option Access) → IsScanning side (modulus_of shape) s → due ≡ due_scan s → IfSome due (IsOpenRight shape side)
scan_right shape side s due is due_is = grind (arith, scan_due, scan_bit_right)

-- the writes of a unary write are to bits up to its value
clearing_right :
    (shape : Shape) (side : Side) (bits : ℕ → Bool) (v : ℕ) → v ≤ modulus_of shape →
    IfSome (first_access (row_bit side) (clearing bits v)) (IsOpenRight shape side)
clearing_right shape side bits zero l = tt
clearing_right shape side bits (suc j) l = grind (arith, row_bit_right, clearing_right shape side bits j (omega (arith, l)))

phrase_right :
    (shape : Shape) (side : Side) (bits : ℕ → Bool) (v : ℕ) → v < modulus_of shape →
    IfSome (first_access (row_bit side) (unary_phrase bits v)) (IsOpenRight shape side)
phrase_right shape side bits v l = by_bit (bits v)
  where
    by_bit : (b : Bool) → IfSome (first_access (row_bit side) (cond b [] (record { bit = v; value = true } ∷ []) ++ clearing bits v)) (IsOpenRight shape side)
    by_bit true = clearing_right shape side bits v (omega (arith, l))
    by_bit false = row_bit_right shape side v true l

pub row_right :
    (shape : Shape) (side : Side) (row : UnaryState) (due : Option Access) → row.side ≡ side → row.value < modulus_of shape → due ≡ due_unary row →
    IfSome due (IsOpenRight shape side)
row_right shape side row due side_is below due_is = grind (arith, phrase_right shape side (bit_in row.bits) row.value below)

-- a value modulo the modulus
pub row_below : (shape : Shape) (row : UnaryState) (n : ℕ) → row.value ≡ n % modulus_of shape → row.value < modulus_of shape
row_below shape row n e = subst (λ v. v < modulus_of shape) (sym e) (mod-lt n (omega (arith, shape.room_to_count)))
