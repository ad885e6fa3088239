use Rattle.std.proofs.Common.{sym, subst}
use Rattle.ring_ends.specs.CounterEnds.{TakeKept}
use Rattle.ring_ends.proofs.CounterTakerCalls.{kept_none, one_found}
use Rattle.ring_ends.proofs.counter_calls.take_open.Goals as goal

pub fetch-requires : goal.fetch-requires
fetch-requires c =
    let r = c.requires.at in
    let a = c.args.stepper.now in
    let found = c.in-Shows.ensures r.0 r.1 r.2 in
    record { at = (a, r.0, record { at = r.1; opened = r.2; few = a.ring.shape.has_take_batch; look = found.0; found = one_found a c.look.new.stepper r.0 found.0 _ found.1 }) }

pub returns-in-Over : goal.returns-in-Over
returns-in-Over c calls at opened =
    let a = c.args.stepper.now in
    let over = c.in-Over.ensures calls at opened in
    subst (TakeKept a c.look.new.stepper c.args.count.now c.args.cell.now calls 1 c.in-Over.reply) (sym over.1)
    (kept_none a c.look.new.stepper c.args.count.now c.args.cell.now calls 1 c.in-Over.reply at over.0)

pub returns-in-Shows : goal.returns-in-Shows
returns-in-Shows c calls at opened =
    let a = c.args.stepper.now in
    let found = c.in-Shows.ensures calls at opened in
    c.fetch.ensures a calls (record { at = at; opened = opened; few = a.ring.shape.has_take_batch; look = found.0; found = one_found a c.look.new.stepper calls found.0 _ found.1 })
