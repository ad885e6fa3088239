use Rattle.std.proofs.Common.{◌+◌, ◌*◌, ◌-◌, length}
use Rattle.ring_ends.specs.Machines.{MachineWent}
use Rattle.ring_ends.proofs.calls.finish.Given as goal

abbrev pub invariant-accesses : goal.invariant-accesses
invariant-accesses g l =
    let k = g.M.SideMachine in
    MachineWent k.kind l.fn.stepper (k.state l.fn.machine) l.stepper (k.state l.machine) (g.O.Oracle.answers l.fn.oracle) (g.O.Oracle.answers l.oracle)

abbrev pub decreases-accesses : goal.decreases-accesses
decreases-accesses g l = let k = g.M.SideMachine in length l.fn.stepper.list + 2 * k.kind.most (k.state l.fn.machine) - length l.stepper.list
