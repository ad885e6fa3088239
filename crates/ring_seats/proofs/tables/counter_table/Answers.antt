use Rattle.std.proofs.Common.{arith, Result}
use Rattle.std.specs.Result.{IfOk}
use Rattle.std.proofs.lemmas.List.{length-replicate}
use Rattle.ring_seats.proofs.CounterMoves.{opens}
use Rattle.ring_seats.proofs.tables.counter_table.Goals as goal

pub of_words-requires : goal.of_words-requires
of_words-requires g c = grind (arith, opens)

-- the table's clause, with this number of words
counted : {T E : Type 0} (P Q : T → Type 0) → ((t : T) → P t → Q t) → (r : Result T E) → IfOk r P → IfOk r Q
counted P Q h1 r h2 = grind arith

pub returns : goal.returns
returns g c = grind (arith, counted, length-replicate)
