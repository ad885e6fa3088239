-- How many items the world asks for with a take.
use Rattle.std.specs.Prelude.{ℕ, ◌-◌, ◌<◌, min}
use Rattle.bits_core.specs.Shape.{take_batch_of}
use Rattle.ring_core.specs.Items.{Tells}
use Rattle.ring_core.specs.Takes.{Takes, taken_in, AreTakes}
use Rattle.ring_player.specs.Plays.{AreWantedBy}
use Rattle.ring_script.specs.Content.{Content}

-- after k items taken: as many as one count write may count, or as are left to take
abbrev pub wanted_at : Content → ℕ → ℕ
wanted_at script k = min (take_batch_of script.shape) (script.takes - k)

-- the takes are those that the script asks for, and if the last one returns Closed, it asked for at least one item
pub record AreTakesOf (script : Content) (calls : Takes) : Type 0 where
  pub are : AreTakes script.shape 0 calls.takes calls.end
  pub wanted : AreWantedBy script 0 calls.takes
  pub ends : Tells calls.end → taken_in 0 calls.takes < script.takes
