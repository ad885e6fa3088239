use Rattle.std.proofs.Common.{◌≡◌, ◌++◌, take, map}
use Rattle.queue_calls.proofs.auditors.CallAuditor.holds.Given as goal

abbrev pub invariant-loop-item : goal.invariant-loop-item
invariant-loop-item g l = record {
  inside : (g.Q.Inside.items l.self.inside) ≡ (g.Q.Inside.items l.fn.self.inside) ++ take l.item-index l.items;
  entries : g.Q.Inside.entries l.self.inside ≡ g.Q.Inside.entries l.fn.self.inside ++ map (λ item. g.Q.Inside.entry item l.fn.line) (take l.item-index l.items);
  room : g.Q.Inside.room l.self.inside ≡ g.Q.Inside.room l.fn.self.inside;
  capacity : l.self.capacity ≡ l.fn.self.capacity;
  put : l.self.put ≡ l.fn.self.put;
  take : l.self.take ≡ l.fn.self.take;
  shut : l.self.shut ≡ l.fn.self.shut;
}
