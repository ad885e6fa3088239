-- Which five numbers make a shape, by tests.
use Rattle.std.proofs.Common.{rules, ◌≡◌, ◌∙◌, ◌≤◌, ◌<◌, ◌+◌, ℕ, Bool, true, false, Some, None, Ok, Err, refl, sym, arith, inl, inr}
use Rattle.std.specs.Prelude.{not, nat_lt, if◌then◌else◌, Result, ⊤}
use Rattle.ring_script.specs.declared.faults.ScriptFault.{ScriptFault}
use Rattle.bits_core.specs.Shape.{AreBatchSizes, HasBatches, IsRefusedBatches, batch_of, capacity_of, modulus_of, take_batch_of, width_of}
use Rattle.bits_core.specs.declared.shapes.Shape.{Shape}
use Rattle.bits_core.specs.declared.faults.ShapeFault.{ShapeFault}
use Rattle.bits_core.specs.declared.faults.ShapeFault.TheVariants.{Capacity, Modulus, Width, Batch, TakeBatch, ModulusOfBatches}
use Rattle.bits_core.proofs.ShapeLemmas.{shape_told}
use Rattle.ring_script.proofs.FieldLemmas.{ok_not_err}
use Rattle.ring_script.proofs.PartLemmas.{same_err}
use Rattle.ring_script.specs.ScriptReading.{if_shape, is_modulus, is_within, shape_in}
use Rattle.ring_script.specs.declared.faults.ScriptFault.TheVariants as fault

inside : (least most n : ℕ) → least ≤ n → n ≤ most → is_within least most n ≡ true
inside least most n low high = grind arith

outside : (least most n : ℕ) → ¬ ((least ≤ n) × (n ≤ most)) → is_within least most n ≡ false
outside least most n h = grind arith

modulus_outside : (c g h m : ℕ) → ¬ (((c + g < m) × (m ≤ 256)) × ((c + h < m) × (m ≤ 256))) → is_modulus c g h m ≡ false
modulus_outside c g h m out = grind arith

pub numbers_accepted : (shape : Shape) → shape_in (capacity_of shape) (modulus_of shape) (width_of shape) (batch_of shape) (take_batch_of shape) ≡ Ok tt
unfolding shape_in
numbers_accepted shape = grind (arith, inside)

pub shape_accepted : (capacity modulus width batch take_batch : ℕ) (shape : Shape) → HasBatches capacity modulus width batch take_batch shape
    → shape_in capacity modulus width batch take_batch ≡ Ok tt
shape_accepted capacity modulus width batch take_batch shape h = grind (arith, numbers_accepted)

-- the first of these is reported
abbrev told : (t1 t2 t3 t4 t5 over : Bool) → Result ⊤ ScriptFault
told t1 t2 t3 t4 t5 over =
    if_shape (if not t1 then Some Capacity else if not t2 then Some Batch else if not t3 then Some TakeBatch
    else if not t4 then Some (if over then ModulusOfBatches else Modulus) else if not t5 then Some Width else None)

shape_is : (c m w g h : ℕ) → shape_in c m w g h ≡ told (is_within 1 64 c) (is_within 1 c g) (is_within 1 c h) (is_modulus c g h m) (is_within 1 64 w) (nat_lt 1 h)
unfolding shape_in
shape_is c m w g h = refl

-- if the sizes are those of batches, the rest decides
sized : (c m w g h : ℕ) → AreBatchSizes c g h → shape_in c m w g h ≡ told true true true (is_modulus c g h m) (is_within 1 64 w) (nat_lt 1 h)
sized c m w g h sizes = grind (arith, inside, shape_is)

pub shape_refused : (c m w g h : ℕ) (refusal : ShapeFault) → IsRefusedBatches c m w g h refusal → shape_in c m w g h ≡ Err (fault.Shape refusal)
shape_refused c m w g h Capacity r = grind (arith, outside, shape_is)
shape_refused c m w g h Batch r = search (rules, inside, outside, shape_is)
shape_refused c m w g h TakeBatch r = search (rules, inside, outside, shape_is)
shape_refused c m w g h Modulus r = grind (arith, modulus_outside, sized)
shape_refused c m w g h ModulusOfBatches r = grind (arith, modulus_outside, sized)
shape_refused c m w g h Width r = grind (arith, inside, outside, sized)

-- the numbers make a shape or are refused, and are reported as such
pub shape_why : (c m w g h : ℕ) (x : ScriptFault) → shape_in c m w g h ≡ Err x → (r : ShapeFault) × (x ≡ fault.Shape r) × IsRefusedBatches c m w g h r
shape_why c m w g h x e = elim (shape_told c m w g h) [
  | inl s ↦ absurd (ok_not_err tt x (sym (shape_accepted c m w g h s.0 s.1) ∙ e))
  | inr f ↦ let same : fault.Shape f.0 ≡ x = same_err _ x (sym (shape_refused c m w g h f.0 f.1) ∙ e) in (f.0, sym same, f.1)
]

pub shape_made : (c m w g h : ℕ) → shape_in c m w g h ≡ Ok tt → (shape : Shape) × HasBatches c m w g h shape
shape_made c m w g h e = elim (shape_told c m w g h) [
  | inl s ↦ s
  | inr f ↦ absurd (ok_not_err tt (fault.Shape f.0) (sym e ∙ shape_refused c m w g h f.0 f.1))
]
