use Rattle.std.proofs.Common.{◌≡◌, ℕ, ◌+◌, ◌<◌, Bool, false, List, length, ap, sym, ◌∙◌, arith}
use Rattle.std.specs.Prelude.{slice_index_or}
use Rattle.std.proofs.lemmas.Bool.{ltb-true}
use Rattle.bits_core.specs.Oracle.{turn}
use Rattle.bits_core.proofs.Tapes.{turn_from, turn-within}
use Rattle.bits_core.proofs.oracles.TapeOracle.answer.Goals as goal

pub returns-in-Some-clause-now : goal.returns-in-Some-clause-now
returns-in-Some-clause-now c =
    let answers : List Bool = c.args.self.now.answers.now in
    let next : ℕ = c.next_place-place.result in
    let here : next + 0 ≡ next = omega arith in
    let within : next < length answers = ltb-true next (length answers) (sym c.in-Some.ensures.lookup.0) in
    let same : c.in-Some.answer.now ≡ slice_index_or answers next false = c.in-Some.ensures.lookup.4 (omega arith) false in
    same ∙ sym (turn-within answers next within) ∙ ap (turn answers) (sym here) ∙ turn_from answers c.args.self.now.place next 0 c.next_place-place.ensures.place

pub returns-in-Some-clause-later : goal.returns-in-Some-clause-later
returns-in-Some-clause-later c i =
    let answers : List Bool = c.args.self.now.answers.now in
    let place : ℕ = c.args.self.now.place in
    let next : ℕ = c.next_place-place.result in
    let sum : next + 1 + i ≡ next + (i + 1) = omega arith in
    ap (turn answers) sum ∙ turn_from answers place next (i + 1) c.next_place-place.ensures.place
