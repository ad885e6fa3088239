-- What a report on a history of a script has to contain.
use Rattle.std.specs.Prelude.{◌≡◌, ◌↔◌, true, List, length}
use Rattle.bits_core.specs.declared.events.Event.{Event}
use Rattle.ring_core.specs.Items.{ToldIn, items_put_in, items_taken_in}
use Rattle.ring_core.specs.Over.{empties, fulls, puts_over_in, takes_over_in}
use Rattle.ring_core.specs.Puts.{FollowsPuts, Puts}
use Rattle.ring_core.specs.Takes.{FollowsTakes, Takes}
use Rattle.ring_player.specs.Plays.{HasFlickers}
use Rattle.ring_script.specs.Content.{Content}
use Rattle.ring_program.specs.Texts.{Summary}

-- by the calls that the history's events are read as: the items put, the items taken, whether a take returned Closed, and how
-- many puts have ended that found the ring full, and takes that found it empty; and how many overlapped reads have ended
pub record Reports (script : Content) (h : List Event) (summary : Summary) : Type 0 where
  pub events : summary.events ≡ length h
  pub put : (puts : Puts) → FollowsPuts script.shape h puts → summary.put ≡ items_put_in script.shape h puts
  pub taken : (takes : Takes) → FollowsTakes script.shape h takes → summary.taken ≡ items_taken_in script.shape h takes
  pub told : (takes : Takes) → FollowsTakes script.shape h takes → (summary.told ≡ true) ↔ ToldIn script.shape h takes
  pub full : (puts : Puts) → FollowsPuts script.shape h puts → summary.full ≡ fulls (puts_over_in script.shape h puts)
  pub empty : (takes : Takes) → FollowsTakes script.shape h takes → summary.empty ≡ empties (takes_over_in script.shape h takes)
  pub flicker : HasFlickers h summary.flicker
