-- The writer of a bit stands after what it made.
use Rattle.std.proofs.Common.{arith, ◌≡◌, Bool, None, List, [], ◌∷◌, ◌++◌, append_assoc, append-nil, sym, ap, ◌∙◌}
use Rattle.register_core.proofs.Common.{map-append, Bit, last_value, Made}
use Rattle.register_core.specs.BitLaw.{logical_write, logical_writes}
use Rattle.register_core.specs.BitState.{BitState, due_change, writes_to, first_write_to, BitStands}
use Rattle.bits_core.proofs.Histories.{last_value-push as last-more}

writes-more : (v : Bool) (values : List Bool) (w : Bool) → logical_writes v (values ++ w ∷ []) ≡ logical_writes v values ++ logical_write (last_value v values) w
writes-more v [] w = append-nil (logical_write v w)
writes-more v (u ∷ values) w = ap (λ l. logical_write v u ++ l) (writes-more u values w) ∙ sym (append_assoc (logical_write v u) (logical_writes u values) (logical_write (last_value u values) w))

-- nothing is due if the bit holds what was requested
idle : (b : Bit) (held wanted : Bool) → first_write_to b (logical_write held wanted) ≡ None → writes_to b (logical_write held wanted) ≡ []
idle b held wanted h1 = grind arith

same : (b : Bit) (held wanted : Bool) → first_write_to b (logical_write held wanted) ≡ None → wanted ≡ held
same b held wanted h1 = grind arith

pub writer-asks : (w : BitState) (v : Bool) → due_change w ≡ None → (first : Bool) (values : List Bool) (made : List Made) → BitStands w first values made → BitStands (record w { wanted = v }) first (values ++ v ∷ []) made
writer-asks w v none first values made stands = grind (arith, append-nil, idle, last-more, map-append, same, writes-more, stands.asked, stands.goes_on, w.bit, w.held, w.wanted)
