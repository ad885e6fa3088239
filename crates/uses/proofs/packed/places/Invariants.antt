use Rattle.std.proofs.Common.{◌≡◌, ◌<◌, ℕ, length}
use Rattle.std.specs.Prelude.{slice_index}
use Rattle.bits_core.specs.Shape.{AllFit}
use Rattle.uses.proofs.packed.places.Given as goal

abbrev pub invariant-places : goal.invariant-places
invariant-places g l =
    (length l.all.items ≡ l.place) × ((k : ℕ) → k < l.place → slice_index l.all.items k ≡ k) × AllFit l.shape l.all.items × (l.shape ≡ l.initial.shape)
