use Rattle.std.proofs.Common.{◌∙◌, inl, inr, sym}
use Rattle.std.proofs.lemmas.Bool.{false≢true}
use Rattle.call_lines.proofs.BeginningLemmas.{after_word_begins, begins_none_line, line_begins, word_begins}
use Rattle.call_lines.proofs.beginnings.may_begin.Goals as goal

pub returns-then-begins_some_word-clause-begins : goal.returns-then-begins_some_word-clause-begins
returns-then-begins_some_word-clause-begins c = ((λ t. word_begins c.args.is_first c.args.bytes.now (c.begins_some_word.ensures.0 t)), λ begins. c.if-begins_some_word.true)

pub returns-else-begins_some_word-clause-begins : goal.returns-else-begins_some_word-clause-begins
returns-else-begins_some_word-clause-begins c = (
  (λ t. after_word_begins c.args.is_first c.args.bytes.now (c.begins_after_word.ensures.0 t)),
  λ begins. elim (line_begins c.args.is_first c.args.bytes.now begins) [
    | inl k ↦ absurd (false≢true (sym c.if-begins_some_word.false ∙ c.begins_some_word.ensures.1 k))
    | inr k ↦ c.begins_after_word.ensures.1 k
  ],
)

pub returns-else-begins_some_word-clause-none : goal.returns-else-begins_some_word-clause-none
returns-else-begins_some_word-clause-none c none =
    begins_none_line c.args.is_first c.args.bytes.now (λ begins. elim (line_begins c.args.is_first c.args.bytes.now begins) [
      | inl k ↦ false≢true (sym c.if-begins_some_word.false ∙ c.begins_some_word.ensures.1 k)
      | inr k ↦ false≢true (sym none ∙ c.begins_after_word.ensures.1 k)
    ])
