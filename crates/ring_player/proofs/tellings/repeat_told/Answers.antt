use Rattle.std.proofs.Common.{◌∙◌}
use Rattle.ring_player.proofs.TellingMoves.{letters_with, tells_with}
use Rattle.ring_player.proofs.tellings.repeat_told.Goals as goal

pub loop-made-preserved : goal.loop-made-preserved
loop-made-preserved g c =
    let l = c.loop-made.invariant in
    let world = c.step_told.new.world in
    record {
      script = c.in_ok-event.ensures.script ∙ l.script;
      at = c.in_ok-event.ensures.at;
      told = tells_with c.loop-made.world.script world.script c.loop-made.world.history world.history c.loop-made.told.items c.add.new.told.items c.in_ok-event.event c.in_ok-event.ensures.script
          c.in_ok-event.ensures.told c.in_ok-add.ensures l.told;
      letters = letters_with c.loop-made.world.script world.script c.args.world.now.script c.loop-made.world.history c.args.world.now.history world.history c.args.side c.loop-made.made
          c.in_ok-event.ensures.script l.script c.in_ok-event.ensures.letters l.letters;
    }
