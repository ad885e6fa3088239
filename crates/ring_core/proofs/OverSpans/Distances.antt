-- Distances of numbers that are known modulo a modulus.
use Rattle.std.proofs.Common.{◌≡◌, ℕ, ◌+◌, ◌-◌, ◌/◌, ◌%◌, ◌<◌, ◌≤◌, arith}
use Rattle.std.proofs.Math.Nat.{mod-add-mod, mod-add-div, add-mul-mod_self_left, mod-eq_of_lt}
use Rattle.ring_core.specs.Counts.{distance}

-- the distance of a number from one that is less than the modulus below it
distance_up : (modulus a r : ℕ) → r < modulus → distance modulus ((a + r) % modulus) (a % modulus) ≡ r
distance_up modulus a r l = grind (arith, mod-add-div a modulus, mod-add-mod (a + r) modulus (modulus - a % modulus), add-mul-mod_self_left r modulus (a / modulus + 1), mod-eq_of_lt l)

-- the same, by the two numbers
pub distance_of : (modulus a n : ℕ) → a ≤ n → n < a + modulus → distance modulus (n % modulus) (a % modulus) ≡ n - a
distance_of modulus a n l m = grind (arith, distance_up modulus a (n - a) (omega arith))

-- numbers that are not equal, and less than the modulus apart, differ modulo it
pub apart : (modulus k n : ℕ) → k < n → n < k + modulus → n % modulus ≡ k % modulus → ⊥
apart modulus k n l m e = grind (arith, distance_of)
