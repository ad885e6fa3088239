-- A tape starts again at its end.
use Rattle.std.proofs.Common.{◌≡◌, ℕ, ◌+◌, ◌<◌, Bool, false, List, length, ap, arith}
use Rattle.std.specs.Prelude.{◌==◌, if◌then◌else◌, slice_index_or}
use Rattle.std.proofs.lemmas.Bool.{eqb-true}
use Rattle.std.proofs.Math.Nat.{add-mod_left, mod-eq_of_lt}
use Rattle.bits_core.specs.Oracle.{turn}

-- the place of the next answer represents the tape's position
pub turn_from : (answers : List Bool) (place next i : ℕ) → next ≡ (if place == length answers then 0 else place) → turn answers (next + i) ≡ turn answers (place + i)
turn_from answers place next i is = grind (arith, eqb-true, add-mod_left)

-- below the end, the answer is the one at the place
pub turn-within : (answers : List Bool) (i : ℕ) → i < length answers → turn answers i ≡ slice_index_or answers i false
turn-within answers i below = ap (λ (k : ℕ). slice_index_or answers k false) (mod-eq_of_lt below)
