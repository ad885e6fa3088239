use Rattle.std.proofs.Common.{◌≡◌, ◌∙◌, inl, ℕ, Some, length, refl, sym, ap, subst}
use Rattle.register_calls.specs.declared.events.Register.{Register}
use Rattle.queue_calls_c.specs.Registers.{IsJudgement}
use Rattle.queue_calls_c.proofs.EventLines.{judgement}
use Rattle.queue_calls_c.proofs.judges.judge.Goals as goal

pub returns-in_default : goal.returns-in_default
returns-in_default c = inl (refl, sym c.in_default.ensures.register)

pub returns-in-Err : goal.returns-in-Err
returns-in-Err c = inl (refl, sym (ap length c.new-writes.ensures.slots) ∙ c.in-Err.ensures.full)

pub returns-in-Ok : goal.returns-in-Ok
returns-in-Ok c =
    let numbers = c.args.numbers.now in
    let lines = c.args.lines.now in
    let room : length c.in-Ok.auditor.window.slots.now ≡ length c.args.window.now = c.in-Ok.ensures.rooms.0 ∙ ap length c.new-writes.ensures.slots in
    subst (λ (n : ℕ). IsJudgement numbers lines n c.hear_lines.result) room
    (judgement numbers lines (length c.in-Ok.auditor.window.slots.now) c.in-Ok.auditor.register c.hear_lines.result (sym c.in-Some.ensures.register ∙ ap (λ (r : Register). Some r) (sym c.in-Ok.ensures.register)) c.hear_lines.ensures.judged
    c.hear_lines.ensures.refused)
