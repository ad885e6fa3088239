use Rattle.std.proofs.Common.{ℕ, List, subst}
use Rattle.ring_audit.proofs.Common.{Event, the_view, PutReading, PutsStand, WerePut}
use Rattle.ring_audit.proofs.PutEnds.{has_put}
use Rattle.ring_audit.proofs.puts.PutReader.follow.Goals as goal

pub returns : goal.returns
returns c =
    let r : PutReading = the_view c.self.inside in
    subst (λ (z : PutReading). (es : List Event) (items stored : List ℕ) → PutsStand z.shape z es items stored → WerePut z.shape es items) c.self.view_is
    (has_put r c.self.invariant c.next-due.result c.next-due.ensures.due c.next-due.ensures.stands)
