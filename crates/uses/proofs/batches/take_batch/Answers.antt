use Rattle.std.proofs.Common.{◌++◌, subst, sym, take}
use Rattle.ring_run.specs.Stored.{HasTook}
use Rattle.uses.proofs.batches.take_batch.Goals as goal

pub returns-clause-took : goal.returns-clause-took
returns-clause-took g c before has =
    subst (λ n. HasTook (g.E.TakeEnd.end c.take_all.new.self) (before ++ take n c.take_all.new.into)) (sym c.taken_by.ensures) (c.take_all.ensures.taken before has)

pub returns-clause-made : goal.returns-clause-made
returns-clause-made g c = (c.take_all.result, c.take_all.ensures.phrase, c.taken_by.ensures)
