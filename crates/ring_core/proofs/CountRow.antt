-- The bits of a count: which of them are set after n unary writes, and how many bit writes the next one has.
use Rattle.std.proofs.Common.{◌≡◌, ℕ, zero, suc, ◌+◌, ◌%◌, ◌<◌, ◌≤◌, Bool, true, false, cond, List, [], ◌∷◌, ◌++◌, length, refl, ap, arith, ◌∙◌, ◌⊎◌, inl, inr, length-append}
use Rattle.std.proofs.lemmas.Bool.{cases_lt}
use Rattle.ring_core.proofs.Common.{length-map, map-append, mod_below, Side, Shape, batch_of, modulus_of, take_batch_of, Made, Write}
use Rattle.std.proofs.Math.Nat.{suc-mod, mod_self, mod-eq_of_lt, zero-mod}
use Rattle.register_core.specs.Row.{RowWrite, row_bit, first_bits, bits_after, writes_in}
use Rattle.register_core.specs.Unary.{clearing, setting, unary_phrase, unary_writes, row_writes, writes_of, count_writes}
use Rattle.ring_core.specs.Counts.{number_past, Count, first_count, count_bits, batch_phrase, batch_by, IsCount}
use Rattle.ring_core.proofs.OverSpans.Distances.{apart}
use Rattle.ring_core.proofs.Readings.Phrases.{at_or_below, NotFirst}
pub use Rattle.register_core.proofs.Rows.{bits_after-append}
pub use Rattle.register_core.proofs.Stands.{row_writes-more as row_writes-push}

-- ---- a unary write over any bits

-- the write of 1 to a bit, and of 0
abbrev set_to_1 : ℕ → RowWrite
set_to_1 j = record { bit = j; value = true }

abbrev set_to_0 : ℕ → RowWrite
set_to_0 j = record { bit = j; value = false }

-- writes of 0 below a place keep the bits from there on
abbrev KeepsFrom : (ℕ → Bool) → ℕ → Type 0
KeepsFrom old j = (bits : ℕ → Bool) (k : ℕ) → j ≤ k → bits_after bits (clearing old j) k ≡ bits k

-- one place further, by the bit that was remembered there
keeps_step :
    (old : ℕ → Bool) (j : ℕ) → KeepsFrom old j → (b : Bool) (bits : ℕ → Bool) (k : ℕ) → suc j ≤ k →
    bits_after bits (cond b (set_to_0 j ∷ clearing old j) (clearing old j)) k ≡ bits k
keeps_step old j rest b bits k above = grind arith

-- the writes of a clearing do so, whatever was remembered
clearing_keeps : (old : ℕ → Bool) (j : ℕ) → KeepsFrom old j
clearing_keeps old zero bits k above = refl
clearing_keeps old (suc j) bits k above = keeps_step old j (clearing_keeps old j) (old j) bits k above

-- writes of 0 to the set bits below a place leave none set there
abbrev ClearsBelow : (ℕ → Bool) → ℕ → Type 0
ClearsBelow old j = (bits : ℕ → Bool) → ((k : ℕ) → k < j → bits k ≡ old k) → (k : ℕ) → k < j → bits_after bits (clearing old j) k ≡ false

-- those of a clearing do so, if the bits below are those remembered
clearing_clears : (old : ℕ → Bool) (j : ℕ) → ClearsBelow old j
clearing_clears old zero bits same k below = absurd (omega arith)
clearing_clears old (suc j) bits same k below = grind (arith, at_or_below, clearing_clears old j, clearing_keeps)

-- ---- how many bit writes the next unary write has

-- the next number is one more, or it is 0 after the last one
pub next_modulo : (n m : ℕ) → 0 < m → (suc n % m ≡ suc (n % m)) ⊎ ((suc n % m ≡ 0) × (suc (n % m) ≡ m))
next_modulo n m some = place (cases_lt (suc (n % m)) m)
  where
    place : (suc (n % m) < m) ⊎ (m ≤ suc (n % m)) → (suc n % m ≡ suc (n % m)) ⊎ ((suc n % m ≡ 0) × (suc (n % m) ≡ m))
    place (inl h) = inl (suc-mod n m ∙ mod-eq_of_lt h)
    place (inr h) =
        grind (arith, mod_below n m some, suc-mod n m, mod_self m)

-- if no bit below the place is set, none is cleared
clearing_none : (bits : ℕ → Bool) (v : ℕ) → ((j : ℕ) → j < v → bits j ≡ false) → clearing bits v ≡ []
clearing_none bits zero clear = refl
clearing_none bits (suc v) clear =
    ap (λ b. cond b (set_to_0 v ∷ clearing bits v) (clearing bits v)) (clear v (omega arith)) ∙ clearing_none bits v (λ j h. clear j (omega arith))

-- a modulus is greater than 1
some_modulus : (shape : Shape) → 1 < modulus_of shape
some_modulus shape = omega (arith, shape.room_to_count, shape.has_batch)

-- ---- the unary writes of a count, one after the other

-- ---- a count whose writes count several items

-- after m more items the number is m greater
pub past_is : (n : ℕ) (items : List ℕ) → number_past n items ≡ n + length items
past_is n [] = omega arith
past_is n (item ∷ items) = omega (arith, past_is (suc n) items)

-- a new count is a count
pub first_is_count : (shape : Shape) → IsCount shape first_count
first_is_count shape = record { set = ap first_bits (zero-mod (modulus_of shape)); clear = λ j below. absurd (omega (arith, below, zero-mod (modulus_of shape))) }

-- a count after the write that counts these items too
abbrev pub counted_on : Shape → Count → List ℕ → Count
counted_on shape c items = record { number = number_past c.number items; bits = bits_after c.bits (count_bits shape c items) }

-- and so is a count after a write
pub counted_is_count : (shape : Shape) (c : Count) (items : List ℕ) → IsCount shape (counted_on shape c items)
counted_is_count shape c items = grind (arith, clearing_keeps, clearing_clears)

-- if a bit below the place is set, some are cleared
clearing_some : (bits : ℕ → Bool) (v j : ℕ) → bits v ≡ true → v < j → 1 ≤ length (clearing bits j)
clearing_some bits v zero set l = absurd (omega (arith, l))
clearing_some bits v (suc j) set l = elim (at_or_below v j l) [
  | inl e ↦ grind arith
  | inr below ↦ longer (bits j) (clearing_some bits v j set below)
]
  where
    longer : (b : Bool) → 1 ≤ length (clearing bits j) → 1 ≤ length (cond b (set_to_0 j ∷ clearing bits j) (clearing bits j))
    longer true h = omega arith
    longer false h = h

pub has_batch : (shape : Shape) → 1 ≤ batch_of shape
has_batch shape = omega (arith, shape.has_batch)

pub batch_below : (shape : Shape) → batch_of shape < modulus_of shape
batch_below shape = omega (arith, shape.room_to_count)

pub take_batch_below : (shape : Shape) → take_batch_of shape < modulus_of shape
take_batch_below shape = grind (arith, shape.room_to_take)

pub batch_by_below : (shape : Shape) (s : Side) → batch_by shape s < modulus_of shape
batch_by_below shape s = grind (arith, batch_below, take_batch_below)

-- a write that counts some items has a bit write
pub bits_long :
    (shape : Shape) (c : Count) (items : List ℕ) → IsCount shape c → 1 ≤ length items → length items < modulus_of shape → 1 ≤ length (count_bits shape c items)
bits_long shape c items is some few =
    let v : ℕ = c.number % modulus_of shape in
    let v' : ℕ = number_past c.number items % modulus_of shape in
    let whole : length (unary_phrase c.bits v') ≡ length (setting c.bits v') + length (clearing c.bits v') = length-append (setting c.bits v') (clearing c.bits v') in
    let other : v' ≡ v → ⊥ = grind (arith, apart, past_is) in
    elim (cases_lt v v') [
      | inl l ↦ omega (arith, whole, clearing_some c.bits v v' is.set l)
      | inr l ↦ elim (cases_lt v' v) [
        | inl m ↦ grind arith
        | inr m ↦ absurd (other (omega (arith, l, m)))
      ]
    ]

-- and an access
pub batch_long :
    (shape : Shape) (s : Side) (c : Count) (items : List ℕ) → IsCount shape c → 1 ≤ length items → length items < modulus_of shape →
    1 ≤ length (batch_phrase shape s c items)
batch_long shape s c items is some few = grind (arith, length-map, bits_long)

clearing_short : (bits : ℕ → Bool) (v : ℕ) → length (clearing bits v) ≤ v
clearing_short bits zero = omega arith
clearing_short bits (suc v) = grind (arith, clearing_short bits v)

-- and as many accesses
pub step_short : (shape : Shape) (s : Side) (c : Count) (item : ℕ) → IsCount shape c → length (batch_phrase shape s c (item ∷ [])) ≤ 2
step_short shape s c item is = search (arith, length-map, next_modulo, some_modulus, clearing_none, length-append)

-- a write that counts several has no more than the modulus
pub batch_short : (shape : Shape) (s : Side) (c : Count) (items : List ℕ) → length (batch_phrase shape s c items) ≤ modulus_of shape
batch_short shape s c items = grind (arith, length-map, clearing_short, mod_below, some_modulus, length-append)

-- ---- the values that are written to a count

-- the bits that the write of the next value leaves, and then those of others
pub value_held :
    (shape : Shape) (c : Count) (items values : List ℕ) (bits : ℕ → Bool) →
    bits_after (bits_after c.bits (count_bits shape c items)) (row_writes (unary_writes (bits_after c.bits (count_bits shape c items)) values)) ≡ bits →
    bits_after c.bits (row_writes (unary_writes c.bits (number_past c.number items % modulus_of shape ∷ values))) ≡ bits
value_held shape c items values bits e = grind (arith, bits_after-append)

-- the writes of values that leave a count, and of one more that counts these items too
pub values_writes-push :
    (shape : Shape) (s : Side) (values items : List ℕ) (c : Count) → bits_after first_bits (writes_of values) ≡ c.bits →
    count_writes s (values ++ number_past c.number items % modulus_of shape ∷ []) ≡ count_writes s values ++ batch_phrase shape s c items
values_writes-push shape s values items c held = grind (arith, row_writes-push, map-append)

-- a count write does not begin with accesses of bits of no row
pub batch_first :
    (shape : Shape) (s : Side) (access : ℕ → ℕ → Bool → Made) → ((i j d : ℕ) (v w : Bool) → Write (row_bit s i) v ≡ access j d w → ⊥) → (c : Count) (items : List ℕ) (behind : List Made) →
    IsCount shape c → 1 ≤ length items → length items < modulus_of shape → NotFirst access (batch_phrase shape s c items ++ behind)
batch_first shape s access other c items behind is some few = by_writes (count_bits shape c items) (bits_long shape c items is some few)
  where
    by_writes : (writes : List RowWrite) → 1 ≤ length writes → NotFirst access (writes_in (row_bit s) writes ++ behind)
    by_writes [] l j d v rest e = absurd (omega (arith, l))
    by_writes (w ∷ writes) l j d v rest e = other w.bit j d w.value v (cc)
