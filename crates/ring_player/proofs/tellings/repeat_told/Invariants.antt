use Rattle.std.proofs.Common.{◌≡◌, List, ◌++◌}
use Rattle.ring_player.proofs.Common.{replicate, Side, Plays, AreAt, TellsCalls, call_events}
use Rattle.ring_player.proofs.tellings.repeat_told.Given as goal

abbrev pub invariant-loop-made : goal.invariant-loop-made
invariant-loop-made g l = record {
  script : l.world.script ≡ l.fn.world.script;
  at : AreAt l.at.put l.at.take l.world.script l.world.history;
  told : TellsCalls l.world.script l.world.history (call_events l.world.script l.told.items);
  letters : (letters : List Side) → Plays l.fn.world.script letters l.fn.world.history → Plays l.fn.world.script (letters ++ replicate l.made l.side) l.world.history;
}
