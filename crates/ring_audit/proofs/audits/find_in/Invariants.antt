use Rattle.std.proofs.Common.{◌≡◌, ◌≤◌, length, take}
use Rattle.bits_core.specs.Auditors.{HeardEvents}
use Rattle.ring_audit.specs.Reading.{BothFollow, ReadingStands, reading}
use Rattle.ring_audit.proofs.audits.find_in.Given as goal

-- the bits permit the events so far, and the readers stand after them, which are of the programs
abbrev pub invariant-loop-i : goal.invariant-loop-i
invariant-loop-i g l = record {
  heard : HeardEvents l.bits l.shape (take l.i l.events);
  put_shape : l.readers.puts.shape ≡ l.shape;
  take_shape : l.readers.takes.consumer.shape ≡ l.shape;
  stands : ReadingStands l.shape (reading l.readers.puts l.readers.takes l.readers.counted (g.S.Store.items l.put) (g.S.Store.items l.taken)) (take l.i l.events);
  follow : BothFollow l.shape (take l.i l.events);
  few_put : length (g.S.Store.items l.put) ≤ l.i;
  put_room : g.S.Store.room l.put ≡ g.S.Store.room l.initial.put;
  taken_room : g.S.Store.room l.taken ≡ g.S.Store.room l.initial.taken;
  put_slots : (first : _) → g.S.Store.same_slots first l.initial.put → g.S.Store.same_slots first l.put;
  taken_slots : (first : _) → g.S.Store.same_slots first l.initial.taken → g.S.Store.same_slots first l.taken;
}
