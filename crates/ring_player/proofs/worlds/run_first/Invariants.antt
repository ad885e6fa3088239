use Rattle.std.proofs.Common.{◌≡◌, ◌≤◌, ◌+◌, ◌-◌, length, take}
use Rattle.ring_player.proofs.Common.{content_of, Plays}
use Rattle.ring_script.specs.Schedule.{spelled}
use Rattle.ring_player.proofs.worlds.run_first.Given as goal

abbrev pub invariant-loop-run : goal.invariant-loop-run
invariant-loop-run g l = record {
  script : l.world.script ≡ content_of l.fn.script;
  all : spelled l.run-items ≡ (content_of l.fn.script).letters;
  plays : Plays (content_of l.fn.script) (take l.fn.letters (spelled (take l.run-index l.run-items))) l.world.history;
  left : l.left ≡ l.fn.letters - length (spelled (take l.run-index l.run-items));
  event_room : l.world.event_room ≡ l.fn.world.event_room;
  item_room : l.world.item_room ≡ l.fn.world.item_room;
  few : length l.world.history + l.left ≤ l.fn.letters;
  within : length l.world.history ≤ length (spelled (take l.run-index l.run-items));
}
