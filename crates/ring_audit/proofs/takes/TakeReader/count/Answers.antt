use Rattle.std.proofs.Common.{subst, sym, ap, ◌∙◌}
use Rattle.ring_audit.proofs.Common.{ConsumerState, ConsumerStands, TakeReading}
use Rattle.ring_audit.proofs.TakeReads.{counts_else}
use Rattle.ring_audit.proofs.takes.TakeReader.count.Goals as goal

pub returns-clause-only : goal.returns-clause-only
returns-clause-only c es items access st wrong writes of_takes =
    let r = c.args.self.now in
    let (i, v, due) = c.count_now.ensures.due in
    let consumer_is = ap (λ (z : TakeReading). z.consumer) c.self.view_is in
    let stands = c.count_now.ensures.stands st.calls st.made (subst (λ p. ConsumerStands p st.calls st.made) (sym consumer_is) st.stands) in
    counts_else r.consumer.shape r es items c.count_now.new.self c.next.result access i v st c.requires.none
    (c.count_now.ensures.shape ∙ ap (λ (p : ConsumerState). p.shape) consumer_is) stands (c.next.ensures.due ∙ due)
    (λ d is. c.next.ensures.goes_on st.calls st.made d stands is) wrong writes of_takes
