use Rattle.std.proofs.Common.{◌≡◌, drop}
use Rattle.queue_calls.proofs.auditors.CallAuditor.ends_take.Given as goal

abbrev pub invariant-loop : goal.invariant-loop
invariant-loop g l = record {
  inside : (g.Q.Inside.items l.self.inside) ≡ drop l.counter (g.Q.Inside.items l.fn.self.inside);
  entries : g.Q.Inside.entries l.self.inside ≡ drop l.counter (g.Q.Inside.entries l.fn.self.inside);
  room : g.Q.Inside.room l.self.inside ≡ g.Q.Inside.room l.fn.self.inside;
  capacity : l.self.capacity ≡ l.fn.self.capacity;
  put : l.self.put ≡ l.fn.self.put;
  take : l.self.take ≡ l.fn.self.take;
  shut : l.self.shut ≡ l.fn.self.shut;
}
