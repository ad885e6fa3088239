use Rattle.std.proofs.Common.{◌≡◌, take}
use Rattle.ring_audit.specs.Dues.{BothStand}
use Rattle.ring_audit.proofs.dues.read_all.Given as goal

-- the readers stand after the events so far
abbrev pub invariant-loop-i : goal.invariant-loop-i
invariant-loop-i l = record {
  put_shape : l.readers.puts.shape ≡ l.shape;
  take_shape : l.readers.takes.consumer.shape ≡ l.shape;
  stands : BothStand l.shape l.readers.puts l.readers.takes (take l.i l.events);
}
