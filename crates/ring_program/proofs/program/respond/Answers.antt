use Rattle.std.proofs.Common.{Some, []}
use Rattle.ring_program.proofs.Endings.{ends_on, run_may_end, status_on}
use Rattle.ring_program.specs.Faults.{Gains}
use Rattle.ring_program.specs.declared.command_line.Request.TheVariants.{LongBits, Run}
use Rattle.ring_program.proofs.program.respond.Goals as goal

pub returns-in-LongBits-clause-asked : goal.returns-in-LongBits-clause-asked
returns-in-LongBits-clause-asked g c =
    let answered = c.long_bits_answer-answered in
    rw c.in-LongBits.is (ends_on LongBits _ _ _
    (Gains (g.E.Write.contents c.args.err.now) (g.E.Write.contents c.deliver.new.err) c.deliver.result.is_told) answered.result c.deliver.result.status
    answered.ensures.answered answered.ensures.refused c.deliver.ensures.delivered)

pub returns-in-LongBits-clause-statuses : goal.returns-in-LongBits-clause-statuses
returns-in-LongBits-clause-statuses g c =
    let answered = c.long_bits_answer-answered in
    rw c.in-LongBits.is (status_on LongBits _ _
    (Gains (g.E.Write.contents c.args.err.now) (g.E.Write.contents c.deliver.new.err) c.deliver.result.is_told) answered.result c.deliver.result.status
    answered.ensures.ends c.deliver.ensures.delivered)

pub returns-in-Run-clause-asked : goal.returns-in-Run-clause-asked
returns-in-Run-clause-asked g c =
    let answered = c.run_answer-answered in
    rw c.in-Run.is (ends_on (Run c.in-Run.run') (Some []) _ _
    (Gains (g.E.Write.contents c.args.err.now) (g.E.Write.contents c.deliver-in-Run.new.err) c.deliver-in-Run.result.is_told) answered.result c.deliver-in-Run.result.status
    answered.ensures.answered answered.ensures.refused c.deliver-in-Run.ensures.delivered)

pub returns-in-Run-clause-statuses : goal.returns-in-Run-clause-statuses
returns-in-Run-clause-statuses g c =
    let answered = c.run_answer-answered in
    rw c.in-Run.is (status_on (Run c.in-Run.run') _ _
    (Gains (g.E.Write.contents c.args.err.now) (g.E.Write.contents c.deliver-in-Run.new.err) c.deliver-in-Run.result.is_told) answered.result c.deliver-in-Run.result.status
    (run_may_end c.in-Run.run' answered.result answered.ensures.answered) c.deliver-in-Run.ensures.delivered)
