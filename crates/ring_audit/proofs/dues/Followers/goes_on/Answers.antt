use Rattle.std.proofs.Common.{[], ◌∷◌, ◌++◌, ap, subst, sym}
use Rattle.ring_audit.proofs.Common.{BothStand, BothFollow}
use Rattle.ring_audit.proofs.DueLemmas.{decides}
use Rattle.ring_audit.proofs.dues.Followers.goes_on.Goals as goal

pub returns : goal.returns
returns c h st =
    let e = c.args.event in
    let r = c.again-readers.result in
    let new = c.read-on.new.self in
    let old : BothStand r.puts.shape r.puts r.takes h = subst (λ f. BothStand f.puts.shape f.puts f.takes h) (sym c.again-readers.ensures) st in
    decides r.puts.shape c.args.self.now.puts.shape h e c.read-on.result (ap (λ f. f.puts.shape) c.again-readers.ensures)
    (λ is. subst (λ s. BothFollow s (h ++ e ∷ [])) c.read-on.ensures.put_shape (c.follow.ensures (h ++ e ∷ []) (subst (λ s. BothStand s new.puts new.takes (h ++ e ∷ [])) (sym c.read-on.ensures.put_shape) (c.read-on.ensures.goes_on is h old))))
    (λ is. c.read-on.ensures.stops is h old)
