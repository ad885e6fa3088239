-- How many items a take of a play asks for.
use Rattle.std.proofs.Common.{ℕ, ◌<◌, arith}
use Rattle.ring_player.proofs.Common.{wanted_at, Content}

-- the world asks for at least one item if one is left, and no more than are left
pub some_wanted : (script : Content) (k : ℕ) → k < script.takes → 0 < wanted_at script k
some_wanted script k l = omega (arith, l, script.shape.has_take_batch)
