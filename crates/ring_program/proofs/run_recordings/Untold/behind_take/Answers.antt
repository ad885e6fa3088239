use Rattle.ring_program.proofs.RunTelling.{front_items, took}
use Rattle.ring_program.proofs.run_recordings.Untold.behind_take.Goals as goal

pub returns-in_ok-taken-in-Passed : goal.returns-in_ok-taken-in-Passed
returns-in_ok-taken-in-Passed c =
    let u = c.args.self in
    let items = c.in-Passed.items.now in
    let left = c.in_ok-taken-in-Passed in
    rw c.in-Passed.is (tt, took u items left.taken (front_items items u.taken.now left.taken.now left.ensures.cases.0 left.ensures.cases.1))
