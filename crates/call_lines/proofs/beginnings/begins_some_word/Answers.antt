use Rattle.std.proofs.Common.{◌≡◌, ◌∙◌, ◌++◌, List, ℕ, subst, sym, arith}
use Rattle.std.proofs.lemmas.Bool.{false≢true}
use Rattle.std.proofs.lemmas.Option.{none-some, same_Some}
use Rattle.call_lines.specs.Beginnings.{tells_queue}
use Rattle.call_lines.specs.Lines.{word_text}
use Rattle.call_lines.specs.declared.lines.Word.{Word}
use Rattle.call_lines.proofs.BeginningLemmas.{number_of_word, other_words}
use Rattle.call_lines.proofs.beginnings.begins_some_word.Goals as goal
use Rattle.call_lines.proofs.beginnings.begins_some_word.Goals.{in-Some+else-begins_word, in_default}

pub loop-number-preserved : goal.loop-number-preserved
loop-number-preserved c =
    other_words c.args.is_first c.args.bytes.now c.loop-number.number c.loop-number.invariant (λ word is begins.
    elim c.match-of_number.branch [
      | in-Some+else-begins_word w ↦
          let same : w.in-Some.word ≡ word = same_Some w.in-Some.word word (sym w.in-Some.is ∙ c.of_number.ensures ∙ is) in
          false≢true (sym w.if-begins_word.false ∙ w.begins_word.ensures.1 (subst (λ (v : Word). (tells_queue v ≡ c.args.is_first) × (rest : List ℕ) × (word_text v ≡ c.args.bytes.now ++ rest)) (sym same) begins))
      | in_default w ↦ none-some word (sym w.in_default.is ∙ c.of_number.ensures ∙ is)
    ])

pub returns : goal.returns
returns c = (
  (λ e. absurd (false≢true e)),
  λ begins. absurd (
      let number = number_of_word begins.0 in
      c.loop-number.invariant number.0 (omega (arith, number.1, c.loop-number-test.false)) begins.0 number.2 (begins.1, begins.2, begins.3)),
)
