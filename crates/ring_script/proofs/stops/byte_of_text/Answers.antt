use Rattle.std.proofs.Common.{arith, ℕ, Option}
use Rattle.std.specs.Prelude.{IfSome}
use Rattle.ring_script.proofs.stops.byte_of_text.Goals as goal

-- what holds for the byte follows from what else holds for it
then_some : {P Q : ℕ → Type 0} (r : Option ℕ) → ((byte : ℕ) → P byte → Q byte) → IfSome r P → IfSome r Q
then_some r h1 h2 = grind arith

pub returns : goal.returns
returns c = grind arith
