-- The bits of a row after writes.
use Rattle.std.proofs.Common.{◌≡◌, ℕ, Bool, cond, List, [], ◌∷◌, ◌++◌, nat_eq, refl, arith}
use Rattle.register_core.proofs.Common.{nat_tests, RowWrite, bits_with, bits_after}

pub other_bit : (bits : ℕ → Bool) (k j : ℕ) (b : Bool) → (k ≡ j → ⊥) → cond (nat_eq k j) b (bits k) ≡ bits k
other_bit bits k j b h = grind (arith, nat_tests)

pub same_bit : (bits : ℕ → Bool) (k j : ℕ) (b : Bool) → k ≡ j → cond (nat_eq k j) b (bits k) ≡ b
same_bit bits k j b h = grind (arith, nat_tests)

pub bits_after-append : (xs ys : List RowWrite) (bits : ℕ → Bool) → bits_after bits (xs ++ ys) ≡ bits_after (bits_after bits xs) ys
bits_after-append [] ys bits = refl
bits_after-append (w ∷ xs) ys bits = bits_after-append xs ys (bits_with bits w)
