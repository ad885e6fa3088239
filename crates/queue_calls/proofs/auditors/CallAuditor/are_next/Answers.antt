use Rattle.std.proofs.Common.{◌≡◌, sym, ◌∙◌, Some, slice_get}
use Rattle.std.proofs.lemmas.Option.{slice_get_within, get_or_from_slice_get}
use Rattle.queue_calls.proofs.Ends.TakeEnds.{next_one}
use Rattle.queue_calls.proofs.auditors.CallAuditor.are_next.Goals as goal

pub loop-index-preserved : goal.loop-index-preserved
loop-index-preserved g c =
    let inside = g.Q.Inside.items c.args.self.now.inside in
    let next = c.in-Some.next in
    let i = c.loop-index.index in
    let at : slice_get inside i ≡ Some next = sym c.in-Some.ensures in
    next_one c.args.items.now inside i c.loop-index-test.true (slice_get_within inside i next at) (get_or_from_slice_get inside i next 0 at ∙ c.if-next-item.false) c.loop-index.invariant
