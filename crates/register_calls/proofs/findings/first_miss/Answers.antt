use Rattle.std.proofs.Common.{◌≡◌, List, ◌∷◌, reverse, get_or, take, true, false, sym, subst, ◌∙◌, arith}
use Rattle.register_calls.proofs.Common.{HasClass, Register, RegisterEvent, WriteBegins}
use Rattle.register_calls.specs.Audits.{AuditsRegister}
use Rattle.register_calls.proofs.MissLemmas.{past_more, refused_tells, first_has}
use Rattle.register_calls.proofs.findings.first_miss.Goals as goal

pub loop-place-init : goal.loop-place-init
loop-place-init g c = record { register = c.in_ok-auditor.ensures.register; audits = c.in_ok-auditor.ensures.audits; has = first_has c.args.class c.args.register }

pub loop-place-preserved : goal.loop-place-preserved
loop-place-preserved g c =
    let past = reverse (take c.loop-place.place c.args.events.now) in
    let e = get_or c.args.events.now c.loop-place.place (WriteBegins 0) in
    let new : AuditsRegister (λ q. q.items) (λ q. q.items) c.feed.new.self (e ∷ past) = (c.in-Ok.ensures.hears.1 past c.loop-place.invariant.audits).0 in
    let same : c.feed.new.self.register ≡ c.args.register = c.in-Ok.ensures.hears.0 ∙ c.loop-place.invariant.register in
    let all = sym (past_more c.args.events.now c.loop-place.place (WriteBegins 0) (omega arith)) in
    record {
      register = same;
      audits = subst (λ (h : List RegisterEvent). AuditsRegister (λ q. q.items) (λ q. q.items) c.feed.new.self h) all new;
      has = subst (λ (h : List RegisterEvent). HasClass c.args.class c.args.register h) all
          (subst (λ (r : Register). HasClass c.args.class r (e ∷ past)) same ((c.has.ensures (e ∷ past) new).0 c.if-not-has.false));
    }

pub returns-then-not-has-clause-miss : goal.returns-then-not-has-clause-miss
returns-then-not-has-clause-miss g c =
    let past = reverse (take c.loop-place.place c.args.events.now) in
    let e = get_or c.args.events.now c.loop-place.place (WriteBegins 0) in
    let new : AuditsRegister (λ q. q.items) (λ q. q.items) c.feed.new.self (e ∷ past) = (c.in-Ok.ensures.hears.1 past c.loop-place.invariant.audits).0 in
    let same : c.feed.new.self.register ≡ c.args.register = c.in-Ok.ensures.hears.0 ∙ c.loop-place.invariant.register in
    record {
      within = omega arith;
      before = c.loop-place.invariant.has;
      with_it = subst (λ (h : List RegisterEvent). ¬ HasClass c.args.class c.args.register h) (sym (past_more c.args.events.now c.loop-place.place (WriteBegins 0) (omega arith)))
          (λ has. (let yes : false ≡ true = sym c.if-not-has.true ∙ (c.has.ensures (e ∷ past) new).1 (subst (λ (r : Register). HasClass c.args.class r (e ∷ past)) (sym same) has) in absurd cc));
    }

pub returns-in-Err-clause-ill_formed : goal.returns-in-Err-clause-ill_formed
returns-in-Err-clause-ill_formed g c = grind (arith, refused_tells)
