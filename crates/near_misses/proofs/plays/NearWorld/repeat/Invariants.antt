use Rattle.std.proofs.Common.{◌≡◌, ◌≤◌, ◌+◌, List, Bool, ◌++◌, length, replicate}
use Rattle.bits_core.specs.declared.events.Side.{Side}
use Rattle.near_misses.specs.NearPlays.{NearAsked}
use Rattle.near_misses.specs.NearSides.{IsNearReady, NearHas, items_held}
use Rattle.near_misses.proofs.plays.NearWorld.repeat.Given as goal

-- both sides can continue; and the letters so far have made what both sides have done
abbrev pub invariant-loop : goal.invariant-loop
invariant-loop g l = record {
  ready : IsNearReady l.self;
  shape : l.self.memory.shape ≡ l.initial.self.memory.shape;
  has :
      (a : NearAsked) (letters : List Side) (oracle : List Bool) → NearHas g.T.Store.items g.I.Store.items a letters oracle l.initial.self →
      NearHas g.T.Store.items g.I.Store.items a (letters ++ replicate l.counter l.side) oracle l.self;
  event_room : l.self.memory.room ≡ l.initial.self.memory.room;
  told_room : g.T.Store.room l.self.told ≡ g.T.Store.room l.initial.self.told;
  item_room : g.I.Store.room l.self.taken ≡ g.I.Store.room l.initial.self.taken;
  few_events : length l.self.memory.events ≤ length l.initial.self.memory.events + l.counter;
  few_told : length (g.T.Store.items l.self.told) ≤ length (g.T.Store.items l.initial.self.told) + l.counter;
  few_items : items_held g.I.Store.items l.self ≤ items_held g.I.Store.items l.initial.self + l.counter;
}
