use Rattle.std.proofs.Common.{sym}
use Rattle.lists.specs.Rings.{ring_items}
use Rattle.queue_calls_c.specs.Heard.{offered_room, taken_room}
use Rattle.queue_calls_c.proofs.ToldLines.{says_of}
use Rattle.queue_calls_c.proofs.hearings.hear_one.Goals as goal

pub returns-in-Some-clause-says : goal.returns-in-Some-clause-says
returns-in-Some-clause-says c before follows number =
    let old = c.args.hearing.now in
    says_of ring_items ring_items (offered_room old) (taken_room old) old c.hear_line.new.self before c.args.number c.args.line.now c.args.numbers.now c.in-Some.word c.own_numbers.result.now c.hear_line.result
    (sym c.in-Some.ensures) c.own_numbers.ensures follows number c.hear_line.ensures.heard
