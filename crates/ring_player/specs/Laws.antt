-- The statements of the laws that are not about plays.
use Rattle.std.specs.Prelude.{◌≡◌, ◌↔◌, ℕ, List}
use Rattle.bits_core.specs.declared.events.Event.{Event}
use Rattle.bits_core.specs.declared.shapes.Shape.{Shape}
use Rattle.bits_core.specs.Lawful.{IsLawful}
use Rattle.bits_core.specs.Memory.{flicker_count}
use Rattle.ring_player.specs.Plays.{HasFlickers}

-- the number of the overlapped reads of a lawful history, by intervals, is that by the marks of a memory
abbrev pub FlickersAreCounted : Type 0
FlickersAreCounted = (shape : Shape) (h : List Event) (count : ℕ) → IsLawful shape h → HasFlickers h count ↔ (count ≡ flicker_count h)
