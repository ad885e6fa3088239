use Rattle.ring_program.proofs.Endings.{ends_on, status_on}
use Rattle.ring_program.specs.Faults.{Gains}
use Rattle.ring_program.specs.declared.command_line.Request.TheVariants.{Register}
use Rattle.ring_program.proofs.program.answer_recorded.Goals as goal

pub returns-clause-asked : goal.returns-clause-asked
returns-clause-asked g c =
    let answered = c.register_answer-answered in
    ends_on (Register c.args.question) _ _ _ (Gains (g.E.Write.contents c.args.err.now) (g.E.Write.contents c.deliver.new.err) c.deliver.result.is_told)
    answered.result c.deliver.result.status answered.ensures.answered answered.ensures.refused c.deliver.ensures.delivered

pub returns-clause-statuses : goal.returns-clause-statuses
returns-clause-statuses g c =
    let answered = c.register_answer-answered in
    status_on (Register c.args.question) _ _ (Gains (g.E.Write.contents c.args.err.now) (g.E.Write.contents c.deliver.new.err) c.deliver.result.is_told)
    answered.result c.deliver.result.status answered.ensures.ends c.deliver.ensures.delivered
