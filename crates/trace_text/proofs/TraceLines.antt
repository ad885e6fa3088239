-- The lines of a trace: what is read is at the front, and what is there is read again.
use Rattle.std.proofs.Common.{◌≡◌, ◌⊎◌, ℕ, ◌<◌, true, false, Some, List, ◌++◌, refl, ap, sym, subst, ◌∙◌, append_assoc, inl, inr, arith}
use Rattle.trace_text.proofs.Common.{◌==◌, codes, decimal, eqb-true, none-some, same_Some, Side, Bit, Act, Event, Shape, ShapeFault, BeginsWithShape, HasBadShape, HasShapeLine}
use Rattle.trace_text.specs.declared.reading.Numbers.{Numbers}
use Rattle.trace_text.specs.declared.reading.ActWord.{ActWord}
use Rattle.bits_core.specs.Shape.{HasBatches, IsRefusedBatches, belongs}
use Rattle.trace_text.specs.TraceText.{side_text, act_text, bit_text, value_text, batch_text, batches_text, event_line, shape_line}
use Rattle.trace_text.specs.TraceReading.{named, side_at, word_at, bit_at, act_at, short_number_at, take_batch_at, batches_at, event_at, shape_at}
use Rattle.line_parts.specs.Parts.{after}
use Rattle.line_parts.proofs.TextReading.{after-text}
use Rattle.line_parts.proofs.NumberReading.{EndsDigits}
use Rattle.trace_text.proofs.TraceFields.{Begins, HasIndices, bind_some, or_else_some, named-text, side_at-text, word_text, word_of, act_word, word_at-text, word_at-again, bit_at-text, bit_at-again, act_at-text, act_at-again, short_number_at-text, short_number_at-again}

-- ---- the line of an event

event_joined : (bytes r1 r2 r3 r4 rest : List ℕ) (s : Side) (w : ActWord) (b : Bit) (a : Act)
    → bytes ≡ side_text s ++ r1 → r1 ≡ word_text w ++ r2 → r2 ≡ bit_text b ++ r3 → (word_text w ≡ act_text a) × (r3 ≡ value_text a ++ r4) → r4 ≡ codes "\n" ++ rest
    → bytes ≡ event_line (record { side = s; bit = b; act = a }) ++ rest
event_joined bytes r1 r2 r3 r4 rest s w b a e1 e2 e3 e4 e5 = grind (arith, append_assoc)

pub event_at-text : (bytes : List ℕ) (x : Event × List ℕ) → event_at bytes ≡ Some x → Begins event_line bytes x
unfolding event_at
event_at-text bytes x e =
    let s = bind_some (side_at bytes) _ x e in
    let w = bind_some (word_at s.0.1) _ x s.2 in
    let b = bind_some (bit_at w.0.1) _ x w.2 in
    let a = bind_some (act_at w.0.0 b.0.1) _ x b.2 in
    let l = bind_some (after (codes "\n") a.0.1) _ x a.2 in
    let made : Event = record { side = s.0.0; bit = b.0.0; act = a.0.0 } in
    subst (λ (y : Event × List ℕ). Begins event_line bytes y) (same_Some (made, l.0) x l.2)
    (event_joined bytes s.0.1 w.0.1 b.0.1 a.0.1 l.0 s.0.0 w.0.0 b.0.0 a.0.0
    (side_at-text bytes s.0 s.1) (word_at-text s.0.1 w.0 w.1) (bit_at-text w.0.1 b.0 b.1) (act_at-text w.0.0 b.0.1 a.0 a.1) (after-text (codes "\n") a.0.1 l.0 l.1))

pub event_at-again : (e : Event) (rest : List ℕ) → HasIndices e.bit → event_at (event_line e ++ rest) ≡ Some (e, rest)
unfolding event_at
event_at-again e rest small = grind (arith, act_at-again, act_word, bit_at-again, append_assoc, word_at-again, word_of, word_text)

-- the indices of a shape's bits are below 256
pub small_indices : (shape : Shape) (b : Bit) → belongs shape b ≡ true → HasIndices b
small_indices shape b h1 = grind arith

-- ---- the line of a shape

-- both batches, and the end of the line
abbrev batches_end : ℕ → ℕ → List ℕ → List ℕ
batches_end batch take_batch rest = batches_text batch take_batch ++ (codes "\n" ++ rest)

record BeginsBatches (bytes : List ℕ) (x : (ℕ × ℕ) × List ℕ) : Type 0 where
  pub text : bytes ≡ batches_end x.0.0 x.0.1 x.1
  pub short : x.0.0 < 10000
  pub short_take : x.0.1 < 10000

-- a batch other than 1 is written
batch_text-other : (batch : ℕ) → (batch == 1) ≡ false → batch_text batch ≡ codes " " ++ decimal batch
unfolding batch_text
batch_text-other batch other = rw other refl

-- the text of both batches, by whether the take batch is 1
batches_text-single : (batch : ℕ) → batches_text batch 1 ≡ batch_text batch
unfolding batches_text
batches_text-single batch = refl

batches_text-other : (batch take_batch : ℕ) → (take_batch == 1) ≡ false → batches_text batch take_batch ≡ codes " " ++ (decimal batch ++ (codes " " ++ decimal take_batch))
unfolding batches_text
batches_text-other batch take_batch other = rw other refl

-- what follows the batch, if that is written
TakePart : ℕ → List ℕ → ℕ × List ℕ → Type 0
TakePart batch bytes x =
    ((x.0 ≡ 1) × ((batch == 1) ≡ false) × (bytes ≡ codes "\n" ++ x.1)) ⊎ (((x.0 == 1) ≡ false) × (x.0 < 10000) × (bytes ≡ codes " " ++ (decimal x.0 ++ (codes "\n" ++ x.1))))

take_batch_at-text : (batch : ℕ) (bytes : List ℕ) (x : ℕ × List ℕ) → take_batch_at batch bytes ≡ Some x → TakePart batch bytes x
unfolding take_batch_at TakePart
take_batch_at-text batch bytes x e = grind (arith, after-text, bind_some, none-some, or_else_some, same_Some, short_number_at-text)

batches_at-text : (bytes : List ℕ) (x : (ℕ × ℕ) × List ℕ) → batches_at bytes ≡ Some x → BeginsBatches bytes x
unfolding batches_at batch_text batches_text TakePart
batches_at-text bytes x e =
    elim (or_else_some (named (1, 1) (codes "\n") bytes) _ x e) [
      | inl k ↦
          let n = named-text (1, 1) (codes "\n") bytes x k in
          subst (λ (y : (ℕ × ℕ) × List ℕ). BeginsBatches bytes y) (ap (λ (y : ℕ × ℕ). (y, x.1)) n.0) (record { text = n.1; short = omega arith; short_take = omega arith })
      | inr k ↦
          let p = bind_some (after (codes " ") bytes) _ x k in
          let g = bind_some (short_number_at p.0) _ x p.2 in
          let h = bind_some (take_batch_at g.0.0 g.0.1) _ x g.2 in
          subst (λ (y : (ℕ × ℕ) × List ℕ). BeginsBatches bytes y) (same_Some ((g.0.0, h.0.0), h.0.1) x h.2)
          (both p.0 g.0.0 g.0.1 h.0 (after-text (codes " ") bytes p.0 p.1) (short_number_at-text p.0 g.0 g.1) (take_batch_at-text g.0.0 g.0.1 h.0 h.1))
    ]
  where
    both : (r1 : List ℕ) (g : ℕ) (r2 : List ℕ) (h : ℕ × List ℕ) → bytes ≡ codes " " ++ r1 → (r1 ≡ decimal g ++ r2) × (g < 10000) → TakePart g r2 h → BeginsBatches bytes ((g, h.0), h.1)
    both r1 g r2 h e1 e2 (inl single) = record {
      text = e1 ∙ ap (λ (r : List ℕ). codes " " ++ r) (e2.0 ∙ ap (λ (r : List ℕ). decimal g ++ r) single.2) ∙ sym (append_assoc (codes " ") (decimal g) (codes "\n" ++ h.1))
          ∙ ap (λ (r : List ℕ). r ++ (codes "\n" ++ h.1)) (sym (batches_text-single g ∙ batch_text-other g single.1))
          ∙ ap (λ (k : ℕ). batches_end g k h.1) (sym single.0);
      short = e2.1;
      short_take = omega (arith, single.0);
    }
    both r1 g r2 h e1 e2 (inr other) = record {
      text = e1 ∙ ap (λ (r : List ℕ). codes " " ++ r) (e2.0 ∙ ap (λ (r : List ℕ). decimal g ++ r) other.2) ∙ joined g h.0 h.1
          ∙ ap (λ (r : List ℕ). r ++ (codes "\n" ++ h.1)) (sym (batches_text-other g h.0 other.0));
      short = e2.1;
      short_take = other.1;
    }
      where
        joined : (g h : ℕ) (rest : List ℕ) → codes " " ++ (decimal g ++ (codes " " ++ (decimal h ++ (codes "\n" ++ rest)))) ≡ (codes " " ++ (decimal g ++ (codes " " ++ decimal h))) ++ (codes "\n" ++ rest)
        joined g h rest = simp append_assoc

-- the number of a take batch that is not 1 is read after a batch
take_batch_at-other : (batch take_batch : ℕ) (rest : List ℕ) → take_batch < 10000 → (take_batch == 1) ≡ false
    → take_batch_at batch (codes " " ++ (decimal take_batch ++ (codes "\n" ++ rest))) ≡ Some (take_batch, rest)
unfolding take_batch_at
take_batch_at-other batch take_batch rest short other = rw (short_number_at-again take_batch (codes "\n" ++ rest) short refl, other) refl

take_batch_at-single : (batch : ℕ) (rest : List ℕ) → (batch == 1) ≡ false → take_batch_at batch (codes "\n" ++ rest) ≡ Some (1, rest)
unfolding take_batch_at
take_batch_at-single batch rest other = rw other refl

batches_at-again : (batch take_batch : ℕ) (rest : List ℕ) → batch < 10000 → take_batch < 10000 → batches_at (batches_end batch take_batch rest) ≡ Some ((batch, take_batch), rest)
unfolding batches_at batch_text batches_text
batches_at-again batch take_batch rest short short_take = grind (arith, append_assoc, batch_text-other, batches_text-other, batches_text-single, eqb-true, short_number_at-again, take_batch_at-other, take_batch_at-single)

-- no digit follows the width
width_ends : (batch take_batch : ℕ) (rest : List ℕ) → EndsDigits (batches_end batch take_batch rest)
unfolding batch_text batches_text
width_ends batch take_batch rest = grind arith

shape_joined : (bytes r1 r2 r3 r4 r5 r6 rest : List ℕ) (capacity modulus width batch take_batch : ℕ)
    → bytes ≡ codes "shape " ++ r1 → r1 ≡ decimal capacity ++ r2 → r2 ≡ codes " " ++ r3 → r3 ≡ decimal modulus ++ r4 → r4 ≡ codes " " ++ r5 → r5 ≡ decimal width ++ r6 → r6 ≡ batches_end batch take_batch rest
    → bytes ≡ shape_line capacity modulus width batch take_batch ++ rest
shape_joined bytes r1 r2 r3 r4 r5 r6 rest capacity modulus width batch take_batch e1 e2 e3 e4 e5 e6 e7 = grind (arith, append_assoc)

-- the line of numbers of at most four digits
pub record BeginsShape (bytes : List ℕ) (x : Numbers × List ℕ) : Type 0 where
  pub text : bytes ≡ shape_line x.0.capacity x.0.modulus x.0.width x.0.batch x.0.take_batch ++ x.1
  pub short_capacity : x.0.capacity < 10000
  pub short_modulus : x.0.modulus < 10000
  pub short_width : x.0.width < 10000
  pub short_batch : x.0.batch < 10000
  pub short_take_batch : x.0.take_batch < 10000

pub shape_at-text : (bytes : List ℕ) (x : Numbers × List ℕ) → shape_at bytes ≡ Some x → BeginsShape bytes x
unfolding shape_at
shape_at-text bytes x e =
    let p = bind_some (after (codes "shape ") bytes) _ x e in
    let c = bind_some (short_number_at p.0) _ x p.2 in
    let q = bind_some (after (codes " ") c.0.1) _ x c.2 in
    let m = bind_some (short_number_at q.0) _ x q.2 in
    let r = bind_some (after (codes " ") m.0.1) _ x m.2 in
    let w = bind_some (short_number_at r.0) _ x r.2 in
    let g = bind_some (batches_at w.0.1) _ x w.2 in
    let capacity = short_number_at-text p.0 c.0 c.1 in
    let modulus = short_number_at-text q.0 m.0 m.1 in
    let width = short_number_at-text r.0 w.0 w.1 in
    let batches = batches_at-text w.0.1 g.0 g.1 in
    let made : Numbers = record { capacity = c.0.0; modulus = m.0.0; width = w.0.0; batch = g.0.0.0; take_batch = g.0.0.1 } in
    subst (λ (y : Numbers × List ℕ). BeginsShape bytes y) (same_Some (made, g.0.1) x g.2) (record {
      text = shape_joined bytes p.0 c.0.1 q.0 m.0.1 r.0 w.0.1 g.0.1 c.0.0 m.0.0 w.0.0 g.0.0.0 g.0.0.1 (after-text (codes "shape ") bytes p.0 p.1) capacity.0
          (after-text (codes " ") c.0.1 q.0 q.1) modulus.0 (after-text (codes " ") m.0.1 r.0 r.1) width.0 batches.text;
      short_capacity = capacity.1;
      short_modulus = modulus.1;
      short_width = width.1;
      short_batch = batches.short;
      short_take_batch = batches.short_take;
    })

pub shape_at-again : (capacity modulus width batch take_batch : ℕ) (rest : List ℕ) → capacity < 10000 → modulus < 10000 → width < 10000 → batch < 10000 → take_batch < 10000
    → shape_at (shape_line capacity modulus width batch take_batch ++ rest) ≡ Some (record { capacity = capacity; modulus = modulus; width = width; batch = batch; take_batch = take_batch }, rest)
unfolding shape_at
shape_at-again capacity modulus width batch take_batch rest short_capacity short_modulus short_width short_batch short_take_batch = grind (arith, batches_at-again, append_assoc, short_number_at-again, width_ends)

-- the numbers of a line represent those of a shape
pub begins_numbers : (bytes rest : List ℕ) (n : Numbers) (shape : Shape) → BeginsShape bytes (n, rest) → HasBatches n.capacity n.modulus n.width n.batch n.take_batch shape → BeginsWithShape bytes shape rest
begins_numbers bytes rest n shape begins is = grind arith

-- line 1 has these numbers, which are refused
pub bad_line : {bytes : List ℕ} {c m w g h : ℕ} (fault : ShapeFault) → IsRefusedBatches c m w g h fault → HasShapeLine bytes c m w g h → HasBadShape bytes fault
bad_line {bytes} {c} {m} {w} {g} {h} fault refused line = record { capacity = c; modulus = m; width = w; batch = g; take_batch = h; line = line; refused = refused }

pub bad_numbers : (bytes rest : List ℕ) (n : Numbers) (fault : ShapeFault) → BeginsShape bytes (n, rest) → IsRefusedBatches n.capacity n.modulus n.width n.batch n.take_batch fault → HasBadShape bytes fault
bad_numbers bytes rest n fault begins refused = bad_line fault refused (record { rest = rest; text = begins.text; short_capacity = begins.short_capacity; short_modulus = begins.short_modulus; short_width = begins.short_width; short_batch = begins.short_batch; short_take_batch = begins.short_take_batch })
