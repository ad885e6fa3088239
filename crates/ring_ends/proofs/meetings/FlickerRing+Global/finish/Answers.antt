use Rattle.std.proofs.Common.{rules, ◌∙◌}
use Rattle.ring_ends.proofs.Common.{consuming, producing, ring_is_linearizable}
use Rattle.ring_ends.specs.Meetings.{ClosesAre, TellsAre}
use Rattle.ring_ends.proofs.Idle.{closes_are, machine_idle, tells_are}
use Rattle.ring_ends.proofs.PutterCalls.{call_seen, put_laws, put_seen}
use Rattle.ring_ends.proofs.TakerCalls.{take_laws, take_seen, taking_seen}
use Rattle.ring_ends.proofs.Passed.{takes_are_prefix, takes_are_all}
use Rattle.ring_ends.proofs.meetings.FlickerRing+Global.finish.Goals as goal

pub join_steppers-seat-requires-clause-idle : goal.join_steppers-seat-requires-clause-idle
join_steppers-seat-requires-clause-idle g c = (
  machine_idle producing put_laws c.putter.inside.stepper c.putter.inside.machine _ c.putter.invariant.0 (call_seen c.putter.view_is ∙ c.requires.idle.0),
  machine_idle consuming take_laws c.taker.inside.stepper c.taker.inside.machine _ c.taker.invariant.0 (taking_seen c.taker.view_is ∙ c.requires.idle.1),
)

pub returns-clause-told : goal.returns-clause-told
returns-clause-told g c =
    let t = c.taker.inside in
    let i = c.taker.invariant.0 in
    take_seen c.taker.view_is (λ e _. TellsAre e.ring.shape e.list c.is_closed_reply-told.result)
    (tells_are t.stepper t.machine _ i (taking_seen c.taker.view_is ∙ c.requires.idle.1) c.reply.result (c.reply.ensures.stands i.calls i.made i.at.stands) c.is_closed_reply-told.result c.is_closed_reply-told.ensures)

pub returns-clause-closed : goal.returns-clause-closed
returns-clause-closed g c =
    let p = c.putter.inside in
    let i = c.putter.invariant.0 in
    put_seen c.putter.view_is (λ e _. ClosesAre e.ring.shape e.list c.is_closed-closed.result)
    (closes_are p.stepper p.machine _ i (call_seen c.putter.view_is ∙ c.requires.idle.0) c.is_closed-closed.result (c.is_closed-closed.ensures.stands i.calls i.made i.at.stands))

pub returns-clause-linearizable : goal.returns-clause-linearizable
returns-clause-linearizable g c = ring_is_linearizable _ _

pub returns-clause-prefix : goal.returns-clause-prefix
returns-clause-prefix g c = takes_are_prefix _ _ c.requires.ring c.join_steppers-seat.result.me.0.known (search rules)

pub returns-clause-all : goal.returns-clause-all
returns-clause-all g c = takes_are_all _ _ c.requires.ring c.join_steppers-seat.result.me.0.known (search rules) _ (returns-clause-told g c)
