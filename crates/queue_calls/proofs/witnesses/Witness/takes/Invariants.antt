use Rattle.std.proofs.Common.{◌≡◌, ◌<◌, List, ◌++◌, map, take}
use Rattle.queue_calls.proofs.Common.{last_in, last_of, taken_at, Taken}
use Rattle.queue_calls.proofs.LastOnes.{taken_behind}
use Rattle.queue_calls.proofs.witnesses.Witness.takes.Given as goal

abbrev pub invariant-loop-item : goal.invariant-loop-item
invariant-loop-item g l = record {
  taken : (earlier : List Taken) → g.S.Taken.Fifo.items l.fn.self.taken ≡ last_of l.fn.self.limit earlier → g.S.Taken.Fifo.items l.self.taken ≡ taken_behind l.fn.self.limit earlier l.line (take l.item-index l.items);
  room : g.S.Taken.Fifo.room l.self.taken ≡ g.S.Taken.Fifo.room l.fn.self.taken;
  some : 0 < l.fn.self.limit;
  limit : l.self.limit ≡ l.fn.self.limit;
  last_taken : (earlier : List Taken) → l.fn.self.last_taken ≡ last_in earlier → l.self.last_taken ≡ last_in (earlier ++ map (taken_at l.line) l.items);
  auditor : l.self.auditor ≡ l.fn.self.auditor;
  ended_at : l.self.ended_at ≡ l.fn.self.ended_at;
  told_at : l.self.told_at ≡ l.fn.self.told_at;
  put_at : l.self.put_at ≡ l.fn.self.put_at;
  stored_at : l.self.stored_at ≡ l.fn.self.stored_at;
}
