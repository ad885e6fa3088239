use Rattle.ring_ends.proofs.MachineWhole.{PartWent}
use Rattle.ring_ends.proofs.calls.finish_word.Given as goal

abbrev pub invariant-digits : goal.invariant-digits
invariant-digits g l = let k = g.M.SideMachine in PartWent k.kind l.ring l.fn.stepper (k.state l.fn.machine) l.stepper (k.worded l.word) (g.O.Oracle.answers l.fn.oracle) (g.O.Oracle.answers l.oracle) (k.IsWordOf l.machine l.word)

abbrev pub decreases-digits : goal.decreases-digits
decreases-digits g l = g.M.SideMachine.digits_left l.word
