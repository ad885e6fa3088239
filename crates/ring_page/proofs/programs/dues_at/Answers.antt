use Rattle.ring_page.proofs.Sinces.{were_due}
use Rattle.ring_page.proofs.programs.dues_at.Goals as goal

pub returns-in-NotProgram : goal.returns-in-NotProgram
returns-in-NotProgram c = rw c.in-NotProgram.is (were_due c.args.shape.now c.args.events.now c.args.place c.due_behind.result _ c.due_behind.ensures.due c.due_behind.ensures.order)
