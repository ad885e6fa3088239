use Rattle.std.proofs.Common.{arith}
use Rattle.uses.proofs.Played.{play_takes}
use Rattle.uses.proofs.plays.takes_of.Goals as goal

pub returns : goal.returns
returns c =
    let r = c.in_ok-report.report in
    let e = c.in_ok-report.ensures in
    play_takes c.args.text.now c.in_ok-script.script r.history.items r.told c.in_ok-script.ensures.read e.plays r.taken.items c.len.result (omega (arith, c.len.ensures)) e.taken e.told
