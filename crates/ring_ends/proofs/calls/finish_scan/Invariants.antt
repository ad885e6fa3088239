use Rattle.ring_ends.proofs.MachineWhole.{PartWent}
use Rattle.ring_ends.proofs.calls.finish_scan.Given as goal

abbrev pub invariant-reads : goal.invariant-reads
invariant-reads g l = let k = g.M.SideMachine in PartWent k.kind l.ring l.fn.stepper (k.state l.fn.machine) l.stepper (k.scanned l.scan) (g.O.Oracle.answers l.fn.oracle) (g.O.Oracle.answers l.oracle) (k.IsScanOf l.machine l.scan)

abbrev pub decreases-reads : goal.decreases-reads
decreases-reads g l = g.M.SideMachine.reads_left l.scan
