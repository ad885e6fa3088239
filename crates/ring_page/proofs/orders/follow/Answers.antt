use Rattle.std.proofs.Common.{ap, sym}
use Rattle.ring_page.proofs.Following.{came_so, line_came, line_refused, refused_so, tells_effect}
use Rattle.queue_calls.specs.Calls.{Effect}
use Rattle.queue_points.specs.Steps.{done}
use Rattle.ring_page.specs.Order.{begun_with}
use Rattle.ring_page.proofs.orders.follow.Goals as goal

pub returns-in-Some-clause-came : goal.returns-in-Some-clause-came
returns-in-Some-clause-came c items before capacity h is =
    line_came c.args.numbers.now c.args.came.now c.args.begun.now c.in-Some.word c.in-Some.told.now (sym c.in-Some.ensures) items before capacity c.follow_line.result c.args.points.now
    c.follow_line.new.points c.follow_line.new.begun c.follow_line.ensures.followed c.follow_line.ensures.begun h is

pub returns-in-Some-clause-not : goal.returns-in-Some-clause-not
returns-in-Some-clause-not c is =
    line_refused c.args.numbers.now c.args.came.now c.args.begun.now c.in-Some.word c.in-Some.told.now (sym c.in-Some.ensures) c.args.points.now c.follow_line.new.points
    (c.follow_line.ensures.not is)

pub returns-in-Some-does_in-clause-came : goal.returns-in-Some-does_in-clause-came
returns-in-Some-does_in-clause-came c items before capacity h is =
    came_so c.args.numbers.now items before c.args.came.now capacity (Effect (done c.in-Some-does_in.does)) c.takes_effect.result c.args.points.now c.takes_effect.new.self
    c.args.begun.now c.args.begun.now h (tells_effect c.args.numbers.now c.args.came.now c.args.begun.now (done c.in-Some-does_in.does) (sym c.in_default.ensures) (sym c.in-Some-does_in.ensures))
    (ap (begun_with c.args.begun.now) c.in_default.ensures) c.takes_effect.ensures is

pub returns-in-Some-does_in-clause-not : goal.returns-in-Some-does_in-clause-not
returns-in-Some-does_in-clause-not c is =
    refused_so c.args.begun.now c.args.numbers.now c.args.came.now (Effect (done c.in-Some-does_in.does)) c.takes_effect.result c.args.points.now c.takes_effect.new.self
    (tells_effect c.args.numbers.now c.args.came.now c.args.begun.now (done c.in-Some-does_in.does) (sym c.in_default.ensures) (sym c.in-Some-does_in.ensures)) c.takes_effect.ensures is
