use Rattle.std.proofs.Common.{◌≡◌, reverse, take}
use Rattle.register_calls.specs.Classes.{HasClass}
use Rattle.register_calls.specs.Audits.{AuditsRegister}
use Rattle.register_calls.proofs.findings.first_miss.Given as goal

abbrev pub invariant-loop-place : goal.invariant-loop-place
invariant-loop-place g l = record {
  register : l.auditor.register ≡ l.fn.register;
  audits : AuditsRegister (λ q. q.items) (λ q. q.items) l.auditor (reverse (take l.place l.events));
  has : HasClass l.class l.fn.register (reverse (take l.place l.events));
}
