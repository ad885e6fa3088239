-- The world: its model, and how its parts fit together.
use Rattle.std.specs.Prelude.{◌≡◌, ◌⊎◌, ℕ, ◌+◌, ◌<◌, ◌≤◌, Bool, IfOk, OnErr, Option, Result, List, [], length}
use Rattle.bits_core.specs.declared.events.Side.{Side}
use Rattle.bits_core.specs.declared.events.Side.TheVariants.{P, C}
use Rattle.bits_core.specs.declared.events.Access.{Access}
use Rattle.bits_core.specs.declared.events.Event.{Event}
use Rattle.bits_core.specs.Made.{Made}
use Rattle.bits_core.specs.Memory.{MemoryState}
use Rattle.bits_core.specs.Oracle.{turn}
use Rattle.ring_player.specs.Actors.{IsMove, IsPlaying, IsAtTurn}
use Rattle.ring_player.specs.Plays.{AreMoves, event_sides}
use Rattle.ring_player.specs.Wants.{wanted_at}
use Rattle.ring_script.specs.Content.{Content}

-- the model of a world: its script and its history, how many items were taken, and for how many events and items in all there
-- surely is room
pub record Played : Type 0 where
  pub script : Content
  pub history : List Event
  pub taken : ℕ
  pub event_room : ℕ
  pub item_room : ℕ

-- One step of a side: if it is refused everything is unchanged, and there was no room for an event, or for what the next take asks for
pub record PlayedOn {E : Type 0} (side : Side) (old new : Played) (result : Result Bool E) : Type 0 where
  pub script : new.script ≡ old.script
  pub ok : IfOk result (λ moved. IsMove old.script side moved old.history new.history)
  pub err : OnErr result (new ≡ old)
  pub rooms : (new.event_room ≡ old.event_room) × (new.item_room ≡ old.item_room)
  pub full : OnErr result ((old.event_room ≤ length old.history) ⊎ (old.item_room < old.taken + wanted_at old.script old.taken))

-- its parts fit together
pub record IsWorld (script : Content) (memory : MemoryState) (put_script take_script : Content) (put_due take_due : Option Access) (put_stands take_stands : List Made → Option Access → Type 0) (answers : ℕ → Bool) : Type 0 where
  pub shape : memory.shape ≡ script.shape
  pub put_script_is : put_script ≡ script
  pub take_script_is : take_script ≡ script
  pub puts : IsPlaying P memory.events put_due put_stands
  pub takes : IsPlaying C memory.events take_due take_stands
  pub oracle : IsAtTurn (turn script.oracle) memory.events answers
  pub moves : AreMoves script (event_sides memory.events) [] memory.events
