use Rattle.std.proofs.Common.{Err, Some, ap, arith}
use Rattle.ring_program.proofs.Endings.{ends_on, question_may_end, read_whole, status_on, unread}
use Rattle.ring_program.proofs.Gains.{tells_line}
use Rattle.ring_program.specs.Answers.{EndsOn}
use Rattle.ring_program.specs.Faults.{Gains}
use Rattle.ring_program.specs.declared.command_line.Request.TheVariants.{OnInput}
use Rattle.ring_program.specs.declared.faults.Refusal.TheVariants as refusal
use Rattle.ring_program.proofs.program.answer_input.Goals as goal

pub returns-in-Ok-clause-asked : goal.returns-in-Ok-clause-asked
returns-in-Ok-clause-asked g c =
    let answered = c.answer_to-answered in
    let asked = OnInput c.args.question in
    let before = g.O.Write.contents c.args.out.now in
    let after = g.O.Write.contents c.deliver.new.out in
    let Tells = Gains (g.E.Write.contents c.args.err.now) (g.E.Write.contents c.deliver.new.err) c.deliver.result.is_told in
    read_whole (λ bytes. EndsOn asked bytes before after Tells c.deliver.result.status) _ _ c.in-Ok.bytes.items c.in-Ok.ensures.whole c.in-Ok.ensures.to_the_end
    (ends_on asked (Some c.in-Ok.bytes.items) before after Tells answered.result c.deliver.result.status (rw c.as_slice.ensures.value at answered.ensures.answered)
    (rw c.as_slice.ensures.value at answered.ensures.refused) c.deliver.ensures.delivered)

pub returns-in-Err-clause-asked : goal.returns-in-Err-clause-asked
returns-in-Err-clause-asked g c =
    let before = g.E.Write.contents c.args.err.now in
    let after = g.E.Write.contents c.refuse.new.err in
    unread c.args.question _ _ _ (Gains before after c.refuse.result.is_told) c.in-Err.fault c.refuse.result.status c.refuse.ensures.status c.in-Err.ensures.no_write
    c.in-Err.ensures.no_run (λ is. c.in-Err.ensures.too_large (ap Err is)) (tells_line before after c.refuse.result.is_told (refusal.App c.in-Err.fault) c.refuse.ensures.told)

pub returns-in-Ok-clause-statuses : goal.returns-in-Ok-clause-statuses
returns-in-Ok-clause-statuses g c = grind (arith, status_on, question_may_end, c.deliver.ensures.delivered)
