use Rattle.std.proofs.Common.{◌≡◌, ◌-◌}
use Rattle.queue_calls.specs.Reasons.{stored_at}
use Rattle.queue_calls.proofs.LastOnes.{changed}
use Rattle.queue_calls.proofs.witnesses.Witness.stores.Given as goal

abbrev pub invariant-loop-place : goal.invariant-loop-place
invariant-loop-place g l = record {
  inside : g.S.Offered.Fifo.items l.self.auditor.inside.list ≡ changed (stored_at l.line) (l.inside - l.count) l.place (g.S.Offered.Fifo.items l.fn.self.auditor.inside.list);
  room : g.S.Offered.Fifo.room l.self.auditor.inside.list ≡ g.S.Offered.Fifo.room l.fn.self.auditor.inside.list;
  capacity : l.self.auditor.capacity ≡ l.fn.self.auditor.capacity;
  put : l.self.auditor.put ≡ l.fn.self.auditor.put;
  take : l.self.auditor.take ≡ l.fn.self.auditor.take;
  shut : l.self.auditor.shut ≡ l.fn.self.auditor.shut;
  taken : l.self.taken ≡ l.fn.self.taken;
  limit : l.self.limit ≡ l.fn.self.limit;
  last_taken : l.self.last_taken ≡ l.fn.self.last_taken;
  ended_at : l.self.ended_at ≡ l.fn.self.ended_at;
  told_at : l.self.told_at ≡ l.fn.self.told_at;
  put_at : l.self.put_at ≡ l.fn.self.put_at;
  stored_at : l.self.stored_at ≡ l.fn.self.stored_at;
}
