use Rattle.std.proofs.Common.{◌≡◌, ◌++◌, take}
use Rattle.ring_audit.proofs.audits.push_all.Given as goal

-- the first of the items come after those that the store had
abbrev pub invariant-loop-i : goal.invariant-loop-i
invariant-loop-i g l = record {
  pushed : g.S.Store.items l.store ≡ g.S.Store.items l.initial.store ++ take l.i l.items;
  kept : g.S.Store.room l.store ≡ g.S.Store.room l.initial.store;
  slots : (first : _) → g.S.Store.same_slots first l.initial.store → g.S.Store.same_slots first l.store;
}
