use Rattle.ring_program.specs.Faults.{refusal_line}
use Rattle.ring_program.proofs.Gains.{tells_both, told_whole}
use Rattle.ring_program.proofs.program.refuse_on.Goals as goal

pub returns-clause-told : goal.returns-clause-told
returns-clause-told g c =
    let first = told_whole _ _ c.refuse-exit.result.is_told (refusal_line c.args.refusal) c.if-not-exit.false c.refuse-exit.ensures.told in
    tells_both _ _ _ c.tell_cause.result c.args.refusal first c.tell_cause.ensures
