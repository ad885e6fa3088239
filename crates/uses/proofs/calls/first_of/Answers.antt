use Rattle.std.proofs.Common.{◌+◌, map, take, subst, sym, ◌∙◌}
use Rattle.queue_calls.specs.Audits.{Audits}
use Rattle.queue_calls.specs.Calls.{IsLinearizable}
use Rattle.queue_calls.specs.Told.{meant, told}
use Rattle.queue_calls.specs.declared.capacities.Capacity.{Capacity}
use Rattle.uses.proofs.Judging.{one_more, outgrown, stops_there}
use Rattle.uses.proofs.calls.first_of.Goals as goal

pub returns-in-Err-OutOfTurn-clause-judged : goal.returns-in-Err-OutOfTurn-clause-judged
returns-in-Err-OutOfTurn-clause-judged g c fresh =
    let was = c.loop-number.invariant.1 fresh in
    let refused = rw c.in-Err-OutOfTurn.field-0-is at c.in-Err-OutOfTurn.ensures.reads in
    stops_there c.loop-number.auditor.capacity c.args.auditor.now.capacity c.args.events.now c.loop-number.number _ c.loop-number.invariant.0 c.loop-number-test.true was.1 (refused.1 _ was.0).1.1

pub returns-in-Err-NotLinearizable-clause-judged : goal.returns-in-Err-NotLinearizable-clause-judged
returns-in-Err-NotLinearizable-clause-judged g c fresh =
    let was = c.loop-number.invariant.1 fresh in
    let refused = rw c.in-Err-NotLinearizable.field-0-is at c.in-Err-NotLinearizable.ensures.reads in
    stops_there c.loop-number.auditor.capacity c.args.auditor.now.capacity c.args.events.now c.loop-number.number _ c.loop-number.invariant.0 c.loop-number-test.true was.1 (refused.1 _ was.0).1.1

pub loop-number-preserved : goal.loop-number-preserved
loop-number-preserved g c =
    let inv = c.loop-number.invariant in
    let now = c.in-Ok.ensures.reads in (
      now.0 ∙ inv.0,
      λ fresh.
          (let was = inv.1 fresh in
          let more = now.1 (map told (take c.loop-number.number c.args.events.now)) was.0 in
          let one = sym (one_more c.args.events.now c.loop-number.number _ c.loop-number-test.true) in (
            subst (Audits g.Q.Fifo.items c.feed.new.self) one more.0,
            subst (λ (k : Capacity). IsLinearizable (meant k) (map told (take (c.loop-number.number + 1) c.args.events.now))) inv.0 (subst (IsLinearizable (meant c.loop-number.auditor.capacity)) one more.1),
          )),
      c.in-Ok.ensures.room ∙ inv.2,
    )

pub returns-in-Err-OutOfMemory-clause-full : goal.returns-in-Err-OutOfMemory-clause-full
returns-in-Err-OutOfMemory-clause-full g c fresh =
    let inv = c.loop-number.invariant in
    let was = inv.1 fresh in
    let refused = rw c.in-Err-OutOfMemory.field-0-is at c.in-Err-OutOfMemory.ensures.reads in
    let more = ((refused.1 (map told (take c.loop-number.number c.args.events.now)) was.0).1).1 in (
      c.loop-number.number + 1,
      outgrown c.loop-number.auditor.capacity c.args.auditor.now.capacity c.args.events.now c.loop-number.number _ _ _ inv.0 inv.2 c.loop-number-test.true more,
    )
