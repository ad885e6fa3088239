use Rattle.std.proofs.Common.{◌≡◌, true, take, sym, ◌∙◌, subst, IfOk}
use Rattle.ring_run.specs.Steppers.{IsSameEnd}
use Rattle.ring_run.specs.Stored.{HasStored, HasTook}
use Rattle.uses.proofs.held_ends.deliver.Goals as goal

pub returns-clause-all : goal.returns-clause-all
returns-clause-all g c told =
    let put = take c.join-putter.result.0.1 c.args.items.now in
    let taken = c.in_ok-end.field-0.taken.items in
    let stored : HasStored c.join-putter.result.0.0 put = search in
    let both : IfOk c.join-putter.result.1 (λ r. IsSameEnd c.in_ok-putter.taker r.end × HasTook r.end r.taken.items) = search in
    let took : HasTook c.in_ok-end.field-0.end taken = (subst (λ w. IfOk w (λ r. IsSameEnd c.in_ok-putter.taker r.end × HasTook r.end r.taken.items)) c.in_ok-end.was both).1 in
    c.finish.ensures.all put taken stored took (sym c.told-told.ensures ∙ told)
