use Rattle.std.proofs.Common.{ℕ, List, subst}
use Rattle.ring_audit.proofs.Common.{Event, TakesStand, WereTaken, reading}
use Rattle.ring_audit.proofs.Breaks.{both_read}
use Rattle.ring_audit.proofs.dues.Followers.follow.Goals as goal

pub returns : goal.returns
returns c h st =
    let r = c.args.self.now in
    let takes_so : (es : List Event) (items : List ℕ) → TakesStand r.puts.shape r.takes es items → WereTaken r.puts.shape es items c.told-told.result =
    subst (λ s. (es : List Event) (items : List ℕ) → TakesStand s r.takes es items → WereTaken s es items c.told-told.result) c.requires c.told-told.ensures in
    both_read r.puts.shape (reading r.puts r.takes st.counted st.put st.taken) c.told-told.result c.follow.ensures takes_so h st.stands
