use Rattle.std.proofs.Common.{◌∙◌, sym, inr, refl}
use Rattle.ring_script.proofs.ItemLemmas.{not_whole, whole_next, wholes_end}
use Rattle.ring_script.proofs.fields.wholes.Goals as goal

pub returns-in-None-clause-refused : goal.returns-in-None-clause-refused
returns-in-None-clause-refused g c =
    inr (refl, sym c.loop-value.invariant ∙ not_whole _ _ _ _ c.loop-value-test.true c.value-item.is (sym c.in-None.is ∙ c.as_u64.ensures))

pub loop-value-preserved : goal.loop-value-preserved
loop-value-preserved g c =
    rw c.in_ok-push-in-Some.ensures.items
    (sym (whole_next _ _ _ _ _ c.loop-value-test.true c.value-item.is (sym c.in-Some.is ∙ c.as_u64.ensures)) ∙ c.loop-value.invariant)

pub returns-clause-read : goal.returns-clause-read
returns-clause-read g c = sym c.loop-value.invariant ∙ wholes_end _ _ _ c.loop-value-test.false
