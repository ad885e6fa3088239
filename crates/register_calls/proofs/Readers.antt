-- Lists of readers: what is kept about each, when one is set or added; and the reads under way.
use Rattle.std.proofs.Common.{◌≡◌, ◌<◌, ℕ, zero, suc, Some, List, [], ◌∷◌, length, ap, arith, get_or-set_other, get_or-set_same}
use Rattle.std.proofs.Math.ListN.{set}
use Rattle.register_calls.proofs.Common.{option_map, none-some, OpenRead, ReaderState, MovesReader, reader_at, lows, own_lows}
use Rattle.register_calls.proofs.Keeping.{KeepsOthers}

pub moves_set : (xs ys : List ReaderState) (i : ℕ) (state : ReaderState) → i < length ys → ((j : ℕ) → reader_at ys j ≡ reader_at xs j) → MovesReader xs (set ys i state) i state
moves_set xs ys i state within same = record { here = rw get_or-set_same; others = λ j apart. rw get_or-set_other (same j) }

-- the lows of the others are unchanged
pub lows_others : (xs ys : List ReaderState) (i : ℕ) (state : ReaderState) → MovesReader xs ys i state → KeepsOthers i (lows xs) (lows ys)
lows_others xs ys i state moves = record { each = λ j apart. ap (λ (s : ReaderState). option_map (λ (r : OpenRead). r.low) s.reading) (moves.others j apart) }

pub own_lows_others : (xs ys : List ReaderState) (i : ℕ) (state : ReaderState) → MovesReader xs ys i state → KeepsOthers i (own_lows xs) (own_lows ys)
own_lows_others xs ys i state moves = record { each = λ j apart. ap (λ (s : ReaderState). option_map (λ (r : OpenRead). r.own_low) s.reading) (moves.others j apart) }

-- no read of a reader past the end of the list is under way
pub open_within : (xs : List ReaderState) (i : ℕ) (r : OpenRead) → (reader_at xs i).reading ≡ Some r → i < length xs
open_within [] i r at = absurd (none-some r at)
open_within (x ∷ xs) zero r at = omega arith
open_within (x ∷ xs) (suc i) r at = let k = open_within xs i r at in omega (arith, k)
