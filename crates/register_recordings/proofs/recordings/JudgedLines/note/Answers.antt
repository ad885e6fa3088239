use Rattle.std.proofs.Common.{rules, sym, subst, reverse, ◌++◌, ◌∷◌, []}
use Rattle.register_recordings.proofs.Common.{RegisterEvent, IsWellFormed, AreMisses}
use Rattle.register_recordings.proofs.MissLemmas.{all_kept, no_end_keeps}
use Rattle.register_recordings.proofs.recordings.JudgedLines.note.Goals as goal

pub returns-in_default : goal.returns-in_default
returns-in_default g c = search (rules, all_kept, no_end_keeps)

pub returns-then-keeps_classes-clause-misses : goal.returns-then-keeps_classes-clause-misses
returns-then-keeps_classes-clause-misses g c before at remembers formed misses =
    let r = c.args.self.now.witness.auditor.register in
    subst (λ (e : RegisterEvent). AreMisses r (before ++ e ∷ []) c.args.self.now.misses) (sym c.in-ReadEnds.is)
    (all_kept r before _ c.args.self.now.misses
    ((c.keeps_classes.ensures (reverse before) remembers (subst (λ (e : RegisterEvent). IsWellFormed r (e ∷ reverse before)) c.in-ReadEnds.is formed)).0 c.if-keeps_classes.true) misses)
