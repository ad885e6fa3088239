use Rattle.std.proofs.Common.{arith}
use Rattle.uses.proofs.Played.{play_leaves, play_within}
use Rattle.uses.proofs.plays.left_inside.Goals as goal

pub overflow_sub-left : goal.overflow_sub-left
overflow_sub-left c =
    let r = c.in_ok-report.report in
    let e = c.in_ok-report.ensures in
    omega (arith, play_within c.in_ok-script.script c.in_ok-script.script.letters r.history.items e.plays r.put.now r.taken.items e.put e.taken, c.len.ensures)

pub returns : goal.returns
returns c =
    let s = c.in_ok-script.script in
    let r = c.in_ok-report.report in
    let e = c.in_ok-report.ensures in
    let few = play_within s s.letters r.history.items e.plays r.put.now r.taken.items e.put e.taken in
    play_leaves c.args.text.now s r.history.items _ r.flicker c.in_ok-script.ensures.read e.plays e.flicker r.put.now r.taken.items e.put e.taken (omega (arith, few, c.len.ensures))
