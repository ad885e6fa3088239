use Rattle.std.proofs.Common.{◌≡◌, ◌++◌, drop, option_map}
use Rattle.serde_json.specs.View.{items_view}
use Rattle.ring_script.specs.FieldReading.{wholes_of}
use Rattle.ring_script.proofs.fields.wholes.Given as goal

-- the items so far and what is left make the whole
abbrev pub invariant-loop-value : goal.invariant-loop-value
invariant-loop-value g l = option_map (λ ns. l.items.items ++ ns) (wholes_of (items_view (drop l.value-index l.list))) ≡ wholes_of (items_view l.list)
