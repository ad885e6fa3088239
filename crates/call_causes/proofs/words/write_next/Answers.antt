use Rattle.std.proofs.Common.{◌∙◌, ◌++◌, codes, decimal, ap, sym, append_assoc}
use Rattle.call_causes.specs.Causes.{next_words}
use Rattle.call_causes.proofs.Writes.{joined, written_as}
use Rattle.call_causes.proofs.words.write_next.Goals as goal

pub returns-in-Some-clause-written : goal.returns-in-Some-clause-written
returns-in-Some-clause-written c words before so_far =
    let n = c.in-Some.next in
    let one = c.write-end.ensures.written words before so_far in
    let two = c.write_number-end.ensures.written _ before one in
    written_as _ _ (c.write_number.ensures.written _ before two)
    (joined (words ++ codes "item ") (decimal n.item) (codes " of line ") (decimal n.offered_at ++ codes " is next")
    ∙ append_assoc words (codes "item ") (decimal n.item ++ (codes " of line " ++ (decimal n.offered_at ++ codes " is next")))
    ∙ ap (λ next. words ++ next_words next) (sym c.in-Some.is))

pub returns-in-None-clause-written : goal.returns-in-None-clause-written
returns-in-None-clause-written c words before so_far =
    written_as _ _ (c.write.ensures.written words before so_far) (ap (λ next. words ++ next_words next) (sym c.in-None.is))
