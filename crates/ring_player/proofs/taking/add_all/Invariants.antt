use Rattle.std.proofs.Common.{◌≡◌, ◌≤◌, ◌+◌, ◌++◌, length, take}
use Rattle.ring_player.proofs.taking.add_all.Given as goal

-- the first of the items come after those that the store had, and there is room for the others
abbrev pub invariant-loop-each : goal.invariant-loop-each
invariant-loop-each g l = record {
  added : g.T.Store.items l.store ≡ g.T.Store.items l.initial.store ++ take l.each-index l.initial.items;
  room : g.T.Store.room l.store ≡ g.T.Store.room l.initial.store;
  spare : length l.initial.items ≤ g.T.Store.spare l.store + l.each-index;
}
