use Rattle.std.proofs.Common.{◌≡◌, ◌≤◌, ◌+◌, List, ◌++◌, length}
use Rattle.ring_player.proofs.Common.{replicate, Side, Plays}
use Rattle.ring_player.proofs.worlds.repeat.Given as goal

abbrev pub invariant-loop-made : goal.invariant-loop-made
invariant-loop-made g l =
    (l.world.script ≡ l.initial.world.script) ×
    ((letters : List Side) → Plays l.initial.world.script letters l.initial.world.history → Plays l.initial.world.script (letters ++ replicate l.made l.side) l.world.history) ×
    (l.world.event_room ≡ l.initial.world.event_room) × (l.world.item_room ≡ l.initial.world.item_room) × (length l.world.history ≤ length l.initial.world.history + l.made)
