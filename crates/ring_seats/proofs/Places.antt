-- Each bit of the shape has a word of its own.
use Rattle.std.proofs.Common.{rules, ◌≡◌, ◌≢◌, ◌⊎◌, inl, inr, ℕ, suc, ◌+◌, ◌*◌, ◌<◌, ◌≤◌, Bool, true, false, true≢false, ◌&&◌, ◌==◌, [], set, refl, ap, sym, ◌∙◌, arith, eqb-true, eq-eqb, mul-le-mul_right, suc-mul, get_or-set_other, length-set}
use Rattle.std.proofs.lemmas.List.{get_or-replicate, length-replicate}
use Rattle.std.proofs.lemmas.Grind.{get_or-set_at}
use Rattle.std.proofs.lemmas.Bool.{and_parts, ltb-true}
use native.Mathlib.Decide.{dec_lt}
use Rattle.ring_seats.proofs.Common.{Bit, Shape, belongs, modulus_of, same_bit}
use Rattle.bits_core.specs.declared.events.Bit.TheVariants.{S, R, X, Cell}
use Rattle.ring_seats.specs.Words.{word_place, word_count, first_words, Shows}

-- a place in a row of cells belongs to one cell
higher : (w j k i l : ℕ) → i < w → j < k → j * w + i < k * w + l
higher w j k i l h lt = let a : suc j * w ≤ k * w = mul-le-mul_right w lt in omega (arith, suc-mul j w)

one_cell : (w j k i l : ℕ) → i < w → l < w → j * w + i ≡ k * w + l → (j ≡ k) × (i ≡ l)
one_cell w j k i l h h' e = go (dec_lt j k) (dec_lt k j)
  where
    go : Dec (j < k) → Dec (k < j) → (j ≡ k) × (i ≡ l)
    go (yes a) b = let up = higher w j k i l h a in absurd (omega arith)
    go (no a) (yes b) = let up = higher w k j l i h' b in absurd (omega arith)
    go (no a) (no b) = let same : j ≡ k = omega arith in let rows : j * w ≡ k * w = ap (λ (n : ℕ). n * w) same in (same, omega arith)

-- two bits of the shape are the same, or have different words
abbrev OneOrApart : Shape → Bit → Bit → Type 0
OneOrApart shape b c = (b ≡ c) ⊎ ((same_bit c b ≡ false) × (word_place shape c ≢ word_place shape b))

cells_apart : (w j k i l : ℕ) → i < w → l < w → (t u : Bool) → (k == j) ≡ t → (l == i) ≡ u → (Cell j i ≡ Cell k l) ⊎ (((t && u) ≡ false) × (k * w + l ≢ j * w + i))
cells_apart w j k i l h h' true true a b = inl (λ n. Cell (sym (eqb-true k j a) n) (sym (eqb-true l i b) n))
cells_apart w j k i l h h' true false a b = inr (refl, λ e. true≢false (sym (eq-eqb l i (one_cell w k j l i h' h e).1) ∙ b))
cells_apart w j k i l h h' false u a b = inr (refl, λ e. true≢false (sym (eq-eqb k j (one_cell w k j l i h' h e).0) ∙ a))

pub one_or_apart : (shape : Shape) (b c : Bit) → belongs shape b ≡ true → belongs shape c ≡ true → OneOrApart shape b c
one_or_apart shape (S i) (S j) hb hc = grind arith
one_or_apart shape (S i) (R j) hb hc = let lt = ltb-true i (modulus_of shape) hb in inr (refl, λ same. omega arith)
one_or_apart shape (S i) X hb hc = inr (refl, λ same. omega arith)
one_or_apart shape (R i) (S j) hb hc = let lt = ltb-true j (modulus_of shape) hc in inr (refl, λ same. omega arith)
one_or_apart shape (R i) (R j) hb hc = grind arith
one_or_apart shape (R i) X hb hc = inr (refl, λ same. omega arith)
one_or_apart shape X (S j) hb hc = inr (refl, λ same. omega arith)
one_or_apart shape X (R j) hb hc = inr (refl, λ same. omega arith)
one_or_apart shape X X hb hc = inl refl
one_or_apart shape (Cell j i) (Cell k l) hb hc = search (rules, and_parts, cells_apart, ltb-true)
one_or_apart shape (Cell j i) (S k) hb hc = let lt = ltb-true k (modulus_of shape) hc in inr (refl, λ same. omega arith)
one_or_apart shape (Cell j i) (R k) hb hc = let lt = ltb-true k (modulus_of shape) hc in inr (refl, λ same. omega arith)
one_or_apart shape (Cell j i) X hb hc = inr (refl, λ same. omega arith)
one_or_apart shape (S i) (Cell k l) hb hc = let lt = ltb-true i (modulus_of shape) hb in inr (refl, λ same. omega arith)
one_or_apart shape (R i) (Cell k l) hb hc = let lt = ltb-true i (modulus_of shape) hb in inr (refl, λ same. omega arith)
one_or_apart shape X (Cell k l) hb hc = inr (refl, λ same. omega arith)

pub place_below : (shape : Shape) (b : Bit) → belongs shape b ≡ true → word_place shape b < word_count shape
place_below shape b h1 = grind arith

-- the words before any step
pub shows_first : (shape : Shape) → Shows shape (first_words shape) []
shows_first shape b has = grind (arith, eq-eqb, eqb-true, get_or-replicate, get_or-set_at, get_or-set_other, length-replicate, length-set, ltb-true, place_below, set, true≢false)
