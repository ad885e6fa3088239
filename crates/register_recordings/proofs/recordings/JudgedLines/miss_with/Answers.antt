use Rattle.std.proofs.Common.{arith, Option, ◌∷◌, reverse, sym, subst, ◌∙◌}
use Rattle.register_recordings.proofs.Common.{false≢true, IsMissOf}
use Rattle.register_calls.specs.declared.events.RegisterEvent.TheVariants.{ReadEnds}
use Rattle.register_calls.specs.Classes.{HasClass}
use Rattle.register_recordings.specs.declared.findings.RegisterMiss.{RegisterMiss}
use Rattle.register_recordings.proofs.MissLemmas.{miss_comes, miss_stays, one_more}
use Rattle.register_recordings.proofs.recordings.JudgedLines.miss_with.Goals as goal

pub returns-in-Some : goal.returns-in-Some
returns-in-Some g c before at remembers formed known = grind (arith, miss_stays)

pub returns-then-has_with : goal.returns-then-has_with
returns-then-has_with g c before at remembers formed known = grind (arith, one_more)

pub returns-else-has_with : goal.returns-else-has_with
returns-else-has_with g c before at remembers formed known =
    let r = c.args.self.now.witness.auditor.register in
    let had : HasClass c.args.class r (reverse before) = subst (λ (o : Option RegisterMiss). IsMissOf c.args.class r before o) c.in-None.is known in
    let lacks : ¬ HasClass c.args.class r (ReadEnds c.args.reader c.args.value ∷ reverse before) =
    λ has. false≢true (sym c.if-has_with.false ∙ (c.has_with.ensures (reverse before) remembers formed).1 has) in
    miss_comes c.args.class r before (record { line = c.args.line; reader = c.args.reader; value = c.args.value; reason = c.reason-reason.result }) at had lacks
    (c.reason-reason.ensures (reverse before) remembers formed had lacks)
