use Rattle.std.proofs.Common.{true, Some, None, sym, ap, ◌∙◌}
use Rattle.ring_audit.proofs.Common.{P, X, Access, answered, end_event, GoesOn, the_view, PutReading}
use Rattle.bits_core.specs.declared.events.Access.TheVariants as begins
use Rattle.ring_audit.specs.declared.puts.Stage.TheVariants.{Closing, Closed}
use Rattle.ring_audit.proofs.PutReads.{read_at, same_open}
use Rattle.ring_audit.proofs.PutSteps.{ends_close}
use Rattle.ring_audit.proofs.puts.PutReader.finish.Goals as goal

pub returns-in-Closing-clause-read : goal.returns-in-Closing-clause-read
returns-in-Closing-clause-read c =
    let r : PutReading = the_view c.self.inside in
    let a : Access = c.args.access in
    read_at r c.args.self.now (record r { stage = Closed; open_access = None }) (end_event P (answered a c.args.answer)) GoesOn Closing (Some a) c.self.view_is c.self.invariant (sym (ap (λ (z : PutReading). z.stage) c.self.view_is) ∙ c.in-Closing.is) c.requires
    (λ stage some at es items stored st. ends_close r.shape r es items stored a c.args.answer st some (same_open r.open_access a (begins.Write X true) some at) stage)
