use Rattle.std.proofs.Common.{List, ℕ, append-nil, sym, subst}
use Rattle.ring_run.specs.Stored.{HasTook}
use Rattle.uses.proofs.two_threads.take_one.Goals as goal

pub returns-in_ok-push-in-Item-clause-took : goal.returns-in_ok-push-in-Item-clause-took
returns-in_ok-push-in-Item-clause-took g c =
    subst (λ (l : List ℕ). HasTook (g.E.TakeEnd.end c.take.new.self) l) (sym c.in_ok-push-in-Item.ensures.items) (c.in-Item.ensures.taken c.args.taken.now.items c.requires.took)

pub returns-in-Empty-clause-took : goal.returns-in-Empty-clause-took
returns-in-Empty-clause-took g c = subst (HasTook (g.E.TakeEnd.end c.take.new.self)) (append-nil c.args.taken.now.items) (c.in-Empty.ensures.taken c.args.taken.now.items c.requires.took)

pub returns-in-Closed-clause-took : goal.returns-in-Closed-clause-took
returns-in-Closed-clause-took g c = subst (HasTook (g.E.TakeEnd.end c.take.new.self)) (append-nil c.args.taken.now.items) (c.in-Closed.ensures.taken c.args.taken.now.items c.requires.took)
