use Rattle.ring_player.proofs.WorldParts.{letters_of}
use Rattle.ring_player.proofs.worlds.World.step.Goals as goal

pub returns-clause-letters : goal.returns-clause-letters
returns-clause-letters g c =
    let w = c.args.self.now in
    let new = c.step_side-moved.new.self in
    letters_of w.script new.script c.args.side w.history new.history c.step_side-moved.result c.step_side-moved.ensures.script c.step_side-moved.ensures.ok c.history.ensures.plays.plays.played
