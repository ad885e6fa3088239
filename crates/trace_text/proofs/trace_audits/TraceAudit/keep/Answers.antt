use Rattle.std.proofs.Common.{◌≢◌, ℕ, ◌++◌, List, ap, sym, subst, ◌∙◌, append_assoc, arith}
use Rattle.trace_text.proofs.Common.{All-append, HasNoFeed}
use Rattle.trace_text.proofs.TraceTexts.{kept_refused}
use Rattle.trace_text.proofs.trace_audits.TraceAudit.keep.Goals as goal

pub returns-else-push-clause-refused : goal.returns-else-push-clause-refused
returns-else-push-clause-refused c before more has = grind (arith, kept_refused)

pub returns-then-push-clause-read : goal.returns-then-push-clause-read
returns-then-push-clause-read c before has =
    let cut : List ℕ = c.args.self.now.cut in
    let rest : List ℕ = c.args.rest.now in
    let pushed = sym (c.push.ensures.pushed c.if-push.true) in
    record {
      ended = has.ended;
      text = ap (λ (t : List ℕ). t ++ rest) has.text ∙ append_assoc has.ended cut rest ∙ ap (λ (t : List ℕ). has.ended ++ t) pushed;
      feedless = subst HasNoFeed pushed (All-append (λ b. b ≢ 10) cut rest has.feedless c.requires);
      lines = has.lines;
    }
