use Rattle.std.proofs.Common.{◌≡◌}
use Rattle.ring_ends.specs.Machines.{MachineWent}
use Rattle.ring_ends.proofs.calls.write_count.Given as goal

abbrev pub invariant-writes : goal.invariant-writes
invariant-writes g l =
    let k = g.M.SideMachine in
    (l.ring ≡ l.stepper.ring) ×
    MachineWent k.kind l.fn.stepper (k.state l.fn.machine) l.stepper (k.state l.machine) (g.O.Oracle.answers l.fn.oracle) (g.O.Oracle.answers l.oracle)

abbrev pub decreases-writes : goal.decreases-writes
decreases-writes g l = g.M.SideMachine.writes_left l.machine
