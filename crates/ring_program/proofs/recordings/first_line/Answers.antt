use Rattle.std.proofs.Common.{arith}
use Rattle.ring_program.proofs.FirstFaults.{front_line, one_line}
use Rattle.ring_program.proofs.recordings.first_line.Goals as goal

pub returns-in-Some-clause-line : goal.returns-in-Some-clause-line
returns-in-Some-clause-line c = search (arith, front_line, c.in-Some.ensures, c.split_at.ensures.front)

pub returns-in-None-clause-line : goal.returns-in-None-clause-line
returns-in-None-clause-line c = one_line c.args.bytes.now c.in-None.ensures
