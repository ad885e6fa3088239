use Rattle.std.proofs.Common.{[], ◌∷◌, ◌++◌, subst, sym, ◌∙◌, ap}
use Rattle.ring_audit.proofs.Common.{P, C, subhistory, BothStand, GoesOnBehind, AreOfPuts, AreOfTakes, TakesStand}
use Rattle.ring_audit.proofs.Readings.{own_more}
use Rattle.ring_audit.proofs.dues.Followers.candidates.Goals as goal

pub returns-in-P-clause-only : goal.returns-in-P-clause-only
returns-in-P-clause-only c h e stands by none on =
    let r = c.again-readers.result in
    let st : BothStand r.puts.shape r.puts r.takes h = subst (λ f. BothStand f.puts.shape f.puts f.takes h) (sym c.again-readers.ensures) stands in
    let goes : GoesOnBehind r.puts.shape h e = subst (λ f. GoesOnBehind f.puts.shape h e) (sym c.again-readers.ensures) on in
    c.candidates.ensures.only (subhistory P h) st.stands.items st.stands.stored e st.stands.puts_stand (by ∙ c.in-P.is) none (subst (AreOfPuts r.puts.shape) (own_more P P h e (by ∙ c.in-P.is)) goes.0)

pub returns-in-C-clause-only : goal.returns-in-C-clause-only
returns-in-C-clause-only c h e stands by none on =
    let r = c.again-readers.result in
    let st : BothStand r.puts.shape r.puts r.takes h = subst (λ f. BothStand f.puts.shape f.puts f.takes h) (sym c.again-readers.ensures) stands in
    let goes : GoesOnBehind r.puts.shape h e = subst (λ f. GoesOnBehind f.puts.shape h e) (sym c.again-readers.ensures) on in
    let same = sym (ap (λ f. f.takes.consumer.shape) c.again-readers.ensures ∙ c.requires ∙ sym (ap (λ f. f.puts.shape) c.again-readers.ensures)) in
    let takes : TakesStand r.takes.consumer.shape r.takes (subhistory C h) st.taken = subst (λ s. TakesStand s r.takes (subhistory C h) st.taken) same st.stands.takes_stand in
    c.candidates-in-C.ensures.only (subhistory C h) st.taken e takes (by ∙ c.in-C.is) none (subst (λ s. AreOfTakes s (subhistory C h ++ e ∷ [])) same (subst (AreOfTakes r.puts.shape) (own_more C C h e (by ∙ c.in-C.is)) goes.1))
