use Rattle.ring_program.proofs.Endings.{ends_on, status_on}
use Rattle.ring_program.specs.Faults.{Gains}
use Rattle.ring_program.specs.declared.command_line.Request.TheVariants.{Calls}
use Rattle.ring_program.proofs.program.answer_calls.Goals as goal

pub returns-clause-asked : goal.returns-clause-asked
returns-clause-asked g c =
    let calls = c.calls_answer-answered in
    ends_on (Calls c.args.stop) _ _ _ (Gains (g.E.Write.contents c.args.err.now) (g.E.Write.contents c.deliver.new.err) c.deliver.result.is_told)
    calls.result c.deliver.result.status calls.ensures.answered calls.ensures.refused c.deliver.ensures.delivered

pub returns-clause-statuses : goal.returns-clause-statuses
returns-clause-statuses g c =
    let calls = c.calls_answer-answered in
    status_on (Calls c.args.stop) _ _ (Gains (g.E.Write.contents c.args.err.now) (g.E.Write.contents c.deliver.new.err) c.deliver.result.is_told)
    calls.result c.deliver.result.status calls.ensures.ends c.deliver.ensures.delivered
