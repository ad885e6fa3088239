use Rattle.std.proofs.Common.{◌≡◌, ◌≢◌, ◌∙◌, ℕ, List, [], Some, ap, length, refl, sym, subst}
use Rattle.std.proofs.lemmas.Bool.{eq-eqb, eqb-true, false≢true}
use Rattle.std.proofs.lemmas.List.{nil_from_length}
use Rattle.call_lines.specs.Beginnings.{BeginsNumbers}
use Rattle.call_lines.proofs.BeginningLemmas.{all_begin, begins_none, nothing_begins, rest_begins, space_alone, space_begins}
use Rattle.call_lines.proofs.LineReadings.{shorter}
use Rattle.call_lines.proofs.beginnings.begins_numbers.Goals as goal

pub returns-then-is_full : goal.returns-then-is_full
returns-then-is_full c =
    let left : List ℕ = c.loop-left.left.now in
    let some : left ≢ [] = λ none. false≢true (sym c.loop-left-test.true ∙ c.is_empty.ensures ∙ eq-eqb (length left) 0 (ap length none)) in
    ((λ e. absurd (false≢true e)), λ begins. absurd (nothing_begins c.loop-left.room left some (c.is_full.ensures.0 c.if-is_full.true) (c.loop-left.invariant.0 begins)))

pub returns-in_default : goal.returns-in_default
returns-in_default c =
    let left : List ℕ = c.loop-left.left.now in
    let some : left ≢ [] = λ none. false≢true (sym c.loop-left-test.true ∙ c.is_empty.ensures ∙ eq-eqb (length left) 0 (ap length none)) in
    let room : c.loop-left.room ≢ Some 0 = λ none. false≢true (sym c.if-is_full.false ∙ c.is_full.ensures.1 none) in (
      (λ t. c.loop-left.invariant.1 (subst (λ (b : List ℕ). BeginsNumbers c.loop-left.room b) (sym (c.is_space.ensures.0 t)) (space_begins c.loop-left.room room))),
      λ begins. c.is_space.ensures.1 (space_alone c.loop-left.room left some (sym c.in_default.ensures) (c.loop-left.invariant.0 begins)),
    )

pub loop-left-smaller : goal.loop-left-smaller
loop-left-smaller c = shorter c.loop-left.left.now c.in-Some.rest.now c.in-Some.field-0-0 c.in-Some.ensures

pub loop-left-preserved : goal.loop-left-preserved
loop-left-preserved c =
    let left : List ℕ = c.loop-left.left.now in
    let some : left ≢ [] = λ none. false≢true (sym c.loop-left-test.true ∙ c.is_empty.ensures ∙ eq-eqb (length left) 0 (ap length none)) in
    let room : c.loop-left.room ≢ Some 0 = λ none. false≢true (sym c.if-is_full.false ∙ c.is_full.ensures.1 none) in
    let n : ℕ = c.in-Some.field-0-0 in (
      (λ begins. subst (λ r. BeginsNumbers r c.in-Some.rest.now) (sym c.one_less-room.ensures) (rest_begins c.loop-left.room left c.in-Some.rest.now n some (sym c.in-Some.ensures) (c.loop-left.invariant.0 begins))),
      λ begins. c.loop-left.invariant.1 (all_begin c.loop-left.room left c.in-Some.rest.now n room (sym c.in-Some.ensures) (subst (λ r. BeginsNumbers r c.in-Some.rest.now) c.one_less-room.ensures begins)),
    )

pub returns : goal.returns
returns c =
    let left : List ℕ = c.loop-left.left.now in
    let none : left ≡ [] = nil_from_length left (eqb-true _ 0 (sym c.is_empty.ensures ∙ c.loop-left-test.false)) in
    ((λ t. c.loop-left.invariant.1 (subst (λ (b : List ℕ). BeginsNumbers c.loop-left.room b) (sym none) (begins_none c.loop-left.room))), λ begins. refl)
