use Rattle.std.proofs.Common.{◌≡◌, ◌≤◌, ◌+◌, ◌-◌, Bool, List, [], length, take}
use Rattle.ring_script.specs.Borrowed.{content_of}
use Rattle.ring_script.specs.Schedule.{spelled}
use Rattle.near_misses.specs.NearPlays.{NearAsked}
use Rattle.near_misses.specs.NearSides.{IsNearReady, NearHas, items_held}
use Rattle.near_misses.proofs.plays.run_first.Given as goal

-- the letters of the first runs, as far as they are to be played, have made what both sides have done
abbrev pub invariant-loop-run : goal.invariant-loop-run
invariant-loop-run g l = record {
  ready : IsNearReady l.world;
  shape : l.world.memory.shape ≡ l.fn.world.memory.shape;
  all : spelled l.run-items ≡ (content_of l.fn.script).letters;
  has :
      (a : NearAsked) (oracle : List Bool) → NearHas g.T.Store.items g.I.Store.items a [] oracle l.fn.world →
      NearHas g.T.Store.items g.I.Store.items a (take l.fn.letters (spelled (take l.run-index l.run-items))) oracle l.world;
  left : l.left ≡ l.fn.letters - length (spelled (take l.run-index l.run-items));
  event_room : l.world.memory.room ≡ l.fn.world.memory.room;
  told_room : g.T.Store.room l.world.told ≡ g.T.Store.room l.fn.world.told;
  item_room : g.I.Store.room l.world.taken ≡ g.I.Store.room l.fn.world.taken;
  few_events : length l.world.memory.events + l.left ≤ l.fn.letters;
  few_told : length (g.T.Store.items l.world.told) + l.left ≤ l.fn.letters;
  few_items : items_held g.I.Store.items l.world + l.left ≤ l.fn.letters;
  events_within : length l.world.memory.events ≤ length (spelled (take l.run-index l.run-items));
  told_within : length (g.T.Store.items l.world.told) ≤ length (spelled (take l.run-index l.run-items));
  items_within : items_held g.I.Store.items l.world ≤ length (spelled (take l.run-index l.run-items));
}
