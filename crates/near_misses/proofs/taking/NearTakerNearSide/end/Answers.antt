use Rattle.std.proofs.Common.{subst}
use Rattle.near_misses.specs.declared.taking.Stage.{Stage}
use Rattle.near_misses.specs.NearSides.{IsTakeDue}
use Rattle.near_misses.proofs.NearLemmas.{row_told}
use Rattle.near_misses.proofs.taking.NearTakerNearSide.end.Goals as goal

pub returns-in-Counting-clause-told : goal.returns-in-Counting-clause-told
returns-in-Counting-clause-told c asked is =
    let t = c.args.self.now in
    row_told asked.miss t.row.order t.row.bits t.row.value c.args._access c.args.answer c.counted.result t.whole
    (subst (λ (s : Stage). IsTakeDue t s c.args._access) c.in-Counting.is c.requires.due) c.counted.ensures.told
