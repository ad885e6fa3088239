-- The results of the play of a script's text.
use Rattle.std.specs.Prelude.{◌≡◌, ◌↔◌, ℕ, ◌+◌, Bool, true, List, length}
use Rattle.bits_core.specs.declared.events.Event.{Event}
use Rattle.ring_core.specs.Puts.{Puts, FollowsPuts}
use Rattle.ring_core.specs.Takes.{Takes, FollowsTakes}
use Rattle.ring_core.specs.Items.{ToldIn, items_put_in, items_taken_in}
use Rattle.ring_player.specs.Headline.{IsPlayOf}
use Rattle.ring_player.specs.Plays.{HasFlickers}
use Rattle.ring_script.specs.Content.{Content}
use Rattle.ring_script.specs.Script.{IsScript}

-- in the play of the script with this text this many items are taken, and a take returns Closed or not
pub record TakesSoMany (text : List ℕ) (taken : ℕ) (told : Bool) : Type 0 where
  pub script : Content
  pub is_script : IsScript text script
  pub history : List Event
  pub plays : IsPlayOf script script.letters history
  pub taken_is : (takes : Takes) → FollowsTakes script.shape history takes → taken ≡ length (items_taken_in script.shape history takes)
  pub told_is : (takes : Takes) → FollowsTakes script.shape history takes → (told ≡ true) ↔ ToldIn script.shape history takes

-- in it this many more items are put than taken, and this many overlapped reads end
pub record LeavesInside (text : List ℕ) (left flickers : ℕ) : Type 0 where
  pub script : Content
  pub is_script : IsScript text script
  pub history : List Event
  pub plays : IsPlayOf script script.letters history
  pub left_is :
      (puts : Puts) (takes : Takes) → FollowsPuts script.shape history puts → FollowsTakes script.shape history takes →
      length (items_taken_in script.shape history takes) + left ≡ length (items_put_in script.shape history puts)
  pub flickers_are : HasFlickers history flickers
