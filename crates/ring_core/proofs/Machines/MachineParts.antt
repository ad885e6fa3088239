-- The machines that both sides are made of: what holds for them while they are running, and once they are done.
use Rattle.std.proofs.Common.{◌≡◌, inl, inr, ℕ, zero, suc, ◌+◌, ◌%◌, ◌<◌, ◌≤◌, Bool, true, false, not, is_some, Option, Some, None, List, [], ◌∷◌, ◌++◌, length, if◌then◌else◌, refl, sym, ap, subst, ◌∙◌, arith, append_assoc}
use Rattle.ring_core.proofs.Common.{mod-eq_of_lt, Side, Access, Shape, modulus_of, Made, answered, IsNext, UnaryState, bit_in, due_writes, due_unary, UnaryStands, number_past, Count, IsCount}
use Rattle.bits_core.specs.declared.events.Access.TheVariants.{Read}
use Rattle.register_core.specs.Row.{row_bit}
use Rattle.register_core.specs.ScanState.{ScanState, ScanStands, IsScanOf, IsValueRead, scan_read, due_scan, row_read_by}
use Rattle.register_core.specs.Unary.{setting, clearing, unary_phrase, count_writes}
use Rattle.ring_core.specs.Calls.{LastBitIsDue, IsScanning, IsCounted, IsBeingCountedOn}
use Rattle.ring_core.proofs.CountRow.{past_is, bits_long}
use Rattle.ring_core.proofs.Readings.Phrases.{at_or_below}
use Rattle.register_core.proofs.Stands.{idle as no_first}

-- ---- the scan

-- a scan that continues has not reached the last bit
pub scanning :
    (shape : Shape) (side : Side) (old new : ScanState) (answer : Bool) → IsScanning side (modulus_of shape) old → (LastBitIsDue shape side (due_scan old) → answer ≡ true) →
    new ≡ scan_read old answer → new.found ≡ false → IsScanning side (modulus_of shape) new
scanning shape side old new true is one e f = absurd (cc)
scanning shape side old new false is one e f =
    let due : due_scan old ≡ Some (Read (row_read_by side old.zeros)) = grind arith in
    grind arith

-- ---- the count

-- if nothing of a unary write is due, its bit is set and those below are clear
set_there : (bits : ℕ → Bool) (v : ℕ) (b : Bool) → bits v ≡ b → unary_phrase bits v ≡ [] → bits v ≡ true
set_there bits v b e none = grind arith

none_at : (bits : ℕ → Bool) (v : ℕ) (b : Bool) → bits v ≡ b → clearing bits (suc v) ≡ [] → (bits v ≡ false) × (clearing bits v ≡ [])
none_at bits v b e none = grind arith

none_below : (bits : ℕ → Bool) (v j : ℕ) → clearing bits v ≡ [] → j < v → bits j ≡ false
none_below bits zero j none l = absurd (omega arith)
none_below bits (suc v) j none l =
    elim (at_or_below j v l) [
      | inl same ↦ ap bits same ∙ (none_at bits v (bits v) refl none).0
      | inr below ↦ none_below bits v j (none_at bits v (bits v) refl none).1 below
    ]

no_parts : {A : Type 0} (xs ys : List A) → xs ++ ys ≡ [] → (xs ≡ []) × (ys ≡ [])
no_parts [] ys e = (refl, e)
no_parts (x ∷ xs) ys e = absurd (cc)

-- the same for a write that counts some items
pub counting_on :
    (shape : Shape) (row new : UnaryState) (count : ℕ) (items : List ℕ) (m : ℕ) → IsCounted row count → count < modulus_of shape → m ≡ length items →
    1 ≤ length items → length items < modulus_of shape → new ≡ record row { value = (count + m) % modulus_of shape } →
    IsBeingCountedOn new (modulus_of shape) count m
counting_on shape row new count items m (none, value) below size some few e =
    let bits : ℕ → Bool = bit_in row.bits in
    let at_rest : unary_phrase bits count ≡ [] = ap (unary_phrase bits) (sym value) ∙ no_first (row_bit row.side) (due_writes row) none in
    let small : count % modulus_of shape ≡ count = mod-eq_of_lt below in
    let c : Count = record { number = count; bits = bits } in
    let is : IsCount shape c = record {
      set = ap bits small ∙ set_there bits count (bits count) refl at_rest;
      clear = λ j l. none_below bits count j (no_parts (setting bits count) (clearing bits count) at_rest).1 (omega (arith, l, small));
    } in
    let value_is : number_past count items % modulus_of shape ≡ (count + m) % modulus_of shape = ap (λ k. k % modulus_of shape) (omega (arith, past_is count items, size)) in
    let long : 1 ≤ length (unary_phrase bits ((count + m) % modulus_of shape)) =
    subst (λ v. 1 ≤ length (unary_phrase bits v)) value_is (bits_long shape c items is some few) in
    rw e ((λ f. absurd (omega (arith, long, ap length (no_first (row_bit row.side) (unary_phrase bits ((count + m) % modulus_of shape)) f)))), refl)

-- ---- what a scan returns

-- a scan without a value continues
pub no_value : (s : ScanState) (value : Option ℕ) → value ≡ (if s.found then Some s.zeros else None) → value ≡ None → s.found ≡ false
no_value s value e f = grind arith

-- a scan that was fed is of the same count
same_scan_side : (s : ScanState) (answer : Bool) → (scan_read s answer).side ≡ s.side
same_scan_side s answer = grind arith

same_scan_modulus : (s : ScanState) (answer : Bool) → (scan_read s answer).modulus ≡ s.modulus
same_scan_modulus s answer = grind arith

-- the value of a scan that has ended
pub gives :
    (shape : Shape) (side : Side) (old new : ScanState) (answer : Bool) (value : Option ℕ) (seen : ℕ) → IsScanning side (modulus_of shape) old → new ≡ scan_read old answer →
    value ≡ Some seen → ((reads : List Made) → ScanStands new reads → IsValueRead (row_read_by new.side) new.modulus reads value) →
    (reads : List Made) → ScanStands new reads → IsScanOf (row_read_by side) (modulus_of shape) reads seen
gives shape side old new answer value seen is fed some values reads stands =
    let of_side : new.side ≡ side = ap (λ (s : ScanState). s.side) fed ∙ same_scan_side old answer ∙ is.side_is in
    let of_modulus : new.modulus ≡ modulus_of shape = ap (λ (s : ScanState). s.modulus) fed ∙ same_scan_modulus old answer ∙ is.modulus_is in
    let read : IsValueRead (row_read_by new.side) new.modulus reads (Some seen) = subst (λ v. IsValueRead (row_read_by new.side) new.modulus reads v) some (values reads stands) in
    subst (λ s. IsScanOf (row_read_by s) (modulus_of shape) reads seen) of_side (subst (λ m. IsScanOf (row_read_by new.side) m reads seen) of_modulus read)

-- what a test implies does not hold if the test failed
pub denied : {A : Type 0} (b : Bool) → (A → b ≡ true) → b ≡ false → A → ⊥
denied b told e a = grind arith

-- ---- machines that are done

pub none_next : {A : Type 0} (o : Option A) (b : Bool) → is_some o ≡ not b → b ≡ true → o ≡ None
none_next o b e f = grind arith

pub row_whole :
    (side : Side) (row new : UnaryState) (due : Option Access) → row.side ≡ side → new.side ≡ row.side → due ≡ None →
    ((values : List ℕ) (made : List Made) → UnaryStands new values made → IsNext (count_writes new.side values) made due) →
    (values : List ℕ) (made : List Made) → UnaryStands new values made → made ≡ count_writes side values
row_whole side row new due is same none next values made stands =
    subst (λ d. IsNext (count_writes new.side values) made d) none (next values made stands) ∙ ap (λ s. count_writes s values) (same ∙ is)

-- ---- an access more

-- what a machine stands after, once the due access has been made
abbrev pub GoesOn : {S : Type 0} → (S → List Made → Type 0) → (S → Option Access) → S → S → Bool → Type 0
GoesOn Stands due old new answer = (made : List Made) (access : Access) → Stands old made → due old ≡ Some access → Stands new (made ++ answered access answer ∷ [])

abbrev pub ScanGoesOn : ScanState → ScanState → Bool → Type 0
ScanGoesOn = GoesOn ScanStands due_scan

abbrev pub RowGoesOn : UnaryState → UnaryState → Bool → Type 0
RowGoesOn old new answer =
    (values : List ℕ) (made : List Made) (access : Access) → UnaryStands old values made → due_unary old ≡ Some access → UnaryStands new values (made ++ answered access answer ∷ [])

-- a row that has made writes after others makes one more
pub row_more :
    (old new : UnaryState) (answer : Bool) (values : List ℕ) (front writes : List Made) (access : Access) → RowGoesOn old new answer →
    UnaryStands old values (front ++ writes) → due_unary old ≡ Some access → UnaryStands new values (front ++ (writes ++ answered access answer ∷ []))
row_more old new answer values front writes access goes stands due = grind (arith, append_assoc)

-- a call under way, one more access
pub longer : (front scan writes x : List Made) → (front ++ (scan ++ writes)) ++ x ≡ front ++ (scan ++ (writes ++ x))
longer front scan writes x = append_assoc front (scan ++ writes) x ∙ ap (λ l. front ++ l) (append_assoc scan writes x)
