use Rattle.std.proofs.Common.{arith, ◌≡◌, ◌⊎◌, Bool, true, false}
use Rattle.ring_ends.proofs.takers.begin_take.Goals as goal

-- a take after Closed is refused, otherwise it starts
split : {A B : Type 0} (told : Bool) → (told ≡ false → A) → (told ≡ true → B) → A ⊎ B
split told h1 h2 = grind arith

pub returns-then-is_none : goal.returns-then-is_none
returns-then-is_none c = grind arith
