use Rattle.std.proofs.Common.{inl, inr, refl}
use Rattle.std.proofs.KnownBytes.{Keeps-refl}
use Rattle.ring_program.proofs.Endings.{if_some}
use Rattle.ring_program.proofs.Gains.{tells_line}
use Rattle.ring_program.specs.Answers.{IsRegisterCause}
use Rattle.ring_program.specs.declared.faults.AppFault.TheVariants as app
use Rattle.ring_program.specs.declared.faults.Refusal.TheVariants as refusal
use Rattle.ring_program.proofs.program.answer_register.Goals as goal

pub returns-in-Err-clause-asked : goal.returns-in-Err-clause-asked
unfolding IsRegisterCause
returns-in-Err-clause-asked g c =
    let before = g.E.Write.contents c.args.err.now in
    let after = g.E.Write.contents c.refuse.new.err in
    let told = tells_line before after c.refuse.result.is_told (refusal.App app.OutOfMemory) c.refuse.ensures.told in
    if_some (g.I.Read.remaining c.args.input.now) _ (λ bytes. inr (refusal.App app.OutOfMemory, inl refl, (c.refuse.ensures.status, Keeps-refl _, told)))

pub returns-in-Err-clause-statuses : goal.returns-in-Err-clause-statuses
returns-in-Err-clause-statuses g c = inl c.refuse.ensures.status
