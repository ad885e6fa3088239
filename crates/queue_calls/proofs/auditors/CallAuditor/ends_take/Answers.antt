use Rattle.std.proofs.Common.{ap, ◌∙◌, drop}
use Rattle.std.proofs.lemmas.List.{drop-drop}
use Rattle.queue_calls.proofs.auditors.CallAuditor.ends_take.Goals as goal

pub loop-preserved : goal.loop-preserved
loop-preserved g c =
    let s = c.args.self.now in
    let i = c.loop.invariant in
    let n = c.loop.counter in
    record {
      inside = c.pop_front.ensures.items ∙ (ap (drop 1) i.inside ∙ drop-drop 1 n (g.Q.Inside.items s.inside));
      entries = c.pop_front.ensures.entries ∙ (ap (drop 1) i.entries ∙ drop-drop 1 n (g.Q.Inside.entries s.inside));
      room = c.pop_front.ensures.kept ∙ i.room;
      capacity = i.capacity;
      put = i.put;
      take = i.take;
      shut = i.shut;
    }
