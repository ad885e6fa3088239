use Rattle.std.proofs.Common.{◌++◌, codes, decimal, sym, ap, ◌∙◌, append-nil}
use Rattle.call_causes.specs.Causes.{cause_words, one}
use Rattle.call_causes.proofs.causes.Cause.said.Goals as goal

pub returns-in-OnlySomeStored : goal.returns-in-OnlySomeStored
returns-in-OnlySomeStored c =
    let s = c.in-OnlySomeStored in
    ap (λ z. one (codes "only ") s.count (one (codes " stored, but item ") s.taken.item (codes " was taken at line " ++ z))) (append-nil (decimal s.taken.taken_at)) ∙
    ap cause_words (sym s.is)

pub returns-in-OnlySomeWithRoom : goal.returns-in-OnlySomeWithRoom
returns-in-OnlySomeWithRoom c =
    let s = c.in-OnlySomeWithRoom in
    ap (λ z. one (codes "only ") s.count (one (codes " stored, but before them at most ") s.inside (codes " inside since line " ++ z))) (append-nil (decimal s.since)) ∙
    ap cause_words (sym s.is)
