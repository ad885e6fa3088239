use Rattle.std.proofs.Common.{◌≡◌, sym, subst, ◌∙◌, rules}
use Rattle.ring_audit.specs.Dues.{GoesOnBehind}
use Rattle.ring_audit.proofs.dues.Followers.kept.Goals.{else-eq-via-then-eq+else-goes_on, else-eq-via-else-eq}
use Rattle.ring_audit.proofs.dues.Followers.kept.Goals as goal

pub returns-then-goes_on-clause-due : goal.returns-then-goes_on-clause-due
returns-then-goes_on-clause-due c h st e =
    let next = c.in-Some.next in
    let by : next.side ≡ c.args.side = search rules in
    let on : GoesOnBehind c.args.self.now.puts.shape h next = (c.goes_on.ensures h st).0 c.if-goes_on.true in (
      λ is. let same : next ≡ e = cc in (c.in-Some.is ∙ is, subst (λ d. d.side ≡ c.args.side) same by, subst (GoesOnBehind c.args.self.now.puts.shape h) same on),
      λ all. sym c.in-Some.is ∙ all.0,
    )

pub returns-else-eq-clause-due : goal.returns-else-eq-clause-due
returns-else-eq-clause-due c h st e = (
  λ is. absurd (cc),
  λ all.
      let same : e ≡ c.in-Some.next = cc in
      let by : c.in-Some.next.side ≡ c.args.side = subst (λ d. d.side ≡ c.args.side) same all.1 in
      absurd (elim c.else-eq.branch [
        | else-eq-via-then-eq+else-goes_on w ↦
            let on = (w.goes_on.ensures h st).1 (subst (GoesOnBehind c.args.self.now.puts.shape h) same all.2) in
            search rules
        | else-eq-via-else-eq w ↦ search rules
      ]),
)
