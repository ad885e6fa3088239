use Rattle.std.proofs.Common.{◌≡◌, take}
use Rattle.ring_script.specs.Schedule.{spelled}
use Rattle.ring_player.proofs.Common.{Plays, AreAt, TellsCalls, call_events}
use Rattle.ring_player.proofs.tellings.play_calls.Given as goal

abbrev pub invariant-loop-run : goal.invariant-loop-run
invariant-loop-run g l = record {
  script : l.world.script ≡ l.fn.script;
  all : spelled l.run-items ≡ l.fn.script.letters;
  at : AreAt l.at.put l.at.take l.world.script l.world.history;
  told : TellsCalls l.world.script l.world.history (call_events l.world.script l.told.items);
  plays : Plays l.fn.script (spelled (take l.run-index l.run-items)) l.world.history;
}
