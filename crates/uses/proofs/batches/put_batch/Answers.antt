use Rattle.std.proofs.Common.{◌≤◌, ◌++◌, length, subst, sym, take}
use Rattle.ring_run.specs.Stored.{HasStored}
use Rattle.ring_ends.proofs.StoredItems.{few_all}
use Rattle.uses.proofs.batches.put_batch.Goals as goal

pub returns-clause-few : goal.returns-clause-few
returns-clause-few g c = subst (λ n. n ≤ length c.args.items.now) (sym c.stored_by.ensures) (few_all _ c.args.items.now _ _ c.put_all.result c.put_all.ensures.phrase)

pub returns-clause-stored : goal.returns-clause-stored
returns-clause-stored g c before has =
    subst (λ n. HasStored (g.E.PutEnd.end c.put_all.new.self) (before ++ take n c.args.items.now)) (sym c.stored_by.ensures) (c.put_all.ensures.stored before has)

pub returns-clause-made : goal.returns-clause-made
returns-clause-made g c = (c.put_all.result, c.put_all.ensures.phrase, c.stored_by.ensures)
