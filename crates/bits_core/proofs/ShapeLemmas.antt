-- Shapes of the same numbers, and that five numbers either make a shape or are refused for one reason.
use Rattle.std.proofs.Common.{◌≡◌, ◌⊎◌, ℕ, ◌+◌, ◌<◌, ◌≤◌, inl, inr, refl, arith}
use Rattle.std.specs.Coded.{le_prop}
use Rattle.bits_core.proofs.Common.{cases_lt, Shape}
use mathlib.Core.HLevel.{is_prop→PathP}
use Rattle.bits_core.specs.declared.faults.ShapeFault.{ShapeFault}
use Rattle.bits_core.specs.declared.faults.ShapeFault.TheVariants.{Capacity, Width, Batch, TakeBatch}
use Rattle.bits_core.specs.Shape.{AreBatchSizes, HasBatches, IsModulusForBoth, IsRefusedBatches, batch_of, capacity_of, modulus_of, take_batch_of, width_of}

-- shapes of the same numbers are equal
pub same_shape : (s t : Shape) → s.capacity ≡ t.capacity → s.modulus ≡ t.modulus → s.width ≡ t.width → s.batch ≡ t.batch → s.take_batch ≡ t.take_batch → s ≡ t
same_shape s t c m w b h = λ i. record {
  capacity = c i;
  modulus = m i;
  width = w i;
  batch = b i;
  take_batch = h i;
  has_cells = is_prop→PathP (λ j. 0 < c j) (λ j. le_prop) s.has_cells t.has_cells i;
  few_cells = is_prop→PathP (λ j. c j ≤ 64) (λ j. le_prop) s.few_cells t.few_cells i;
  room_to_count = is_prop→PathP (λ j. c j + b j < m j) (λ j. le_prop) s.room_to_count t.room_to_count i;
  room_to_take = is_prop→PathP (λ j. c j + h j < m j) (λ j. le_prop) s.room_to_take t.room_to_take i;
  small_modulus = is_prop→PathP (λ j. m j ≤ 256) (λ j. le_prop) s.small_modulus t.small_modulus i;
  has_digits = is_prop→PathP (λ j. 0 < w j) (λ j. le_prop) s.has_digits t.has_digits i;
  few_digits = is_prop→PathP (λ j. w j ≤ 64) (λ j. le_prop) s.few_digits t.few_digits i;
  has_batch = is_prop→PathP (λ j. 0 < b j) (λ j. le_prop) s.has_batch t.has_batch i;
  small_batch = is_prop→PathP (λ j. b j ≤ c j) (λ j. le_prop) s.small_batch t.small_batch i;
  has_take_batch = is_prop→PathP (λ j. 0 < h j) (λ j. le_prop) s.has_take_batch t.has_take_batch i;
  small_take_batch = is_prop→PathP (λ j. h j ≤ c j) (λ j. le_prop) s.small_take_batch t.small_take_batch i;
}

-- the numbers of a shape are not refused, and numbers are refused for one reason only
pub not_refused : (s : Shape) (fault : ShapeFault) → ¬ IsRefusedBatches (capacity_of s) (modulus_of s) (width_of s) (batch_of s) (take_batch_of s) fault
not_refused s fault refused = grind arith

pub one_refusal : (c m w g h : ℕ) (e f : ShapeFault) → IsRefusedBatches c m w g h e → IsRefusedBatches c m w g h f → e ≡ f
one_refusal c m w g h e f a b = grind arith

in_range : (low n high : ℕ) → ((low < n) × (n ≤ high)) ⊎ ¬ ((low < n) × (n ≤ high))
in_range low n high = grind (arith, cases_lt)

-- five numbers make a shape, or are refused
abbrev pub ShapeTold : ℕ → ℕ → ℕ → ℕ → ℕ → Type 0
ShapeTold c m w g h = ((shape : Shape) × HasBatches c m w g h shape) ⊎ ((fault : ShapeFault) × IsRefusedBatches c m w g h fault)

-- a modulus that is out of its range is reported under the name that depends on the take batch
bad_modulus : (c m w g h : ℕ) → AreBatchSizes c g h → ¬ IsModulusForBoth c g h m → ShapeTold c m w g h
bad_modulus c m w g h sizes out = grind (arith, cases_lt 1 h)

pub shape_told : (c m w g h : ℕ) → ShapeTold c m w g h
shape_told c m w g h = elim (in_range 0 c 64) [
  | inr out ↦ inr (Capacity, out)
  | inl cells ↦ elim (in_range 0 g c) [
    | inr out ↦ inr (Batch, (cells, out))
    | inl batch ↦ elim (in_range 0 h c) [
      | inr out ↦ inr (TakeBatch, (cells, batch, out))
      | inl take_batch ↦ elim (in_range (c + g) m 256) [
        | inr out ↦ bad_modulus c m w g h (cells, batch, take_batch) (λ both. out both.0)
        | inl counts ↦ elim (in_range (c + h) m 256) [
          | inr out ↦ bad_modulus c m w g h (cells, batch, take_batch) (λ both. out both.1)
          | inl takes ↦ elim (in_range 0 w 64) [
            | inr out ↦ inr (Width, ((cells, batch, take_batch), (counts, takes), out))
            | inl digits ↦ inl (
              record {
                capacity = c;
                modulus = m;
                width = w;
                batch = g;
                take_batch = h;
                has_cells = cells.0;
                few_cells = cells.1;
                room_to_count = counts.0;
                room_to_take = takes.0;
                small_modulus = counts.1;
                has_digits = digits.0;
                few_digits = digits.1;
                has_batch = batch.0;
                small_batch = batch.1;
                has_take_batch = take_batch.0;
                small_take_batch = take_batch.1;
              },
              record { capacity_is = refl; modulus_is = refl; width_is = refl; batch_is = refl; take_batch_is = refl },
            )
          ]
        ]
      ]
    ]
  ]
]
