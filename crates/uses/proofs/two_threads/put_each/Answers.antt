use Rattle.std.proofs.Common.{◌≡◌, ◌+◌, ℕ, List, take, refl, ap, sym, ◌∙◌, subst, arith}
use Rattle.bits_core.specs.declared.shapes.Shape.{Shape}
use Rattle.bits_core.specs.Shape.{batch_of}
use Rattle.ring_run.specs.Ring.{Ring}
use Rattle.ring_run.specs.Stored.{HasStored}
use Rattle.ring_run.proofs.RelayLemmas.{fit_there, same_trans}
use Rattle.uses.proofs.Passing.{chunk, chunk_first, chunk_within}
use Rattle.ring_ends.proofs.StoredItems.{none_stored}
use Rattle.uses.proofs.two_threads.put_each.Goals as goal

pub puts-init : goal.puts-init
puts-init g c =
    let e = g.E.PutEnd.end c.args.putter.now in
    (c.requires.idle, record { ring = refl; side = refl; known = refl }, refl, omega arith, none_stored e c.requires.fresh, c.shape-shape.ensures.shape)

pub put_batch-stored-requires-clause-batch : goal.put_batch-stored-requires-clause-batch
put_batch-stored-requires-clause-batch g c =
    let e = g.E.PutEnd.end c.puts.putter in
    let i = c.puts.invariant in
    let shape : Shape = e.ring.shape in
    let fit = fit_there (g.E.PutEnd.end c.args.putter.now) e c.args.items.now i.1 c.requires.fit in
    let batch : c.batch.result ≡ batch_of shape = c.batch.ensures.value ∙ ap batch_of i.5 in
    chunk shape c.args.items.now c.puts.stored (c.puts.stored + c.min.result) fit
    (omega (arith, c.min.ensures, c.batch.ensures.some, c.if-stored-items.false, i.3))
    (omega (arith, c.min.ensures, i.3))
    (omega (arith, c.min.ensures, batch))

pub puts-preserved : goal.puts-preserved
puts-preserved g c =
    let b = g.E.PutEnd.end c.put_batch-stored.new.putter in
    let i = c.puts.invariant in
    let s = c.put_batch-stored.ensures in
    let items : List ℕ = c.args.items.now in
    let next : ℕ = c.puts.stored + c.min.result in (
      s.idle,
      same_trans (g.E.PutEnd.end c.args.putter.now) (g.E.PutEnd.end c.puts.putter) b i.1 s.same,
      refl,
      chunk_within items c.puts.stored next c.put_batch-stored.result (omega arith) (omega (arith, c.min.ensures, i.3)) s.few,
      subst (HasStored b) (chunk_first items c.puts.stored next c.put_batch-stored.result s.few) (s.stored (take c.puts.stored items) i.4),
      i.5 ∙ sym (ap (λ (r : Ring). r.shape) s.same.ring),
    )
