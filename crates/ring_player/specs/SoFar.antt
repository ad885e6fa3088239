-- What an actor has put, or taken, in its events so far, for one reading of them.
use Rattle.std.specs.Prelude.{◌≡◌, ℕ, ◌↔◌, Bool, true, List, length}
use Rattle.bits_core.specs.declared.events.Event.{Event}
use Rattle.bits_core.specs.declared.events.Side.TheVariants.{P, C}
use Rattle.bits_core.specs.declared.shapes.Shape.{Shape}
use Rattle.bits_core.specs.Made.{events_of, IsPrefix}
use Rattle.ring_core.specs.Counts.{first_count}
use Rattle.ring_core.specs.Items.{IsTold, all_taken, items_put, items_taken}
use Rattle.ring_core.specs.Over.{empties, fulls, puts_over, takes_over}
use Rattle.ring_core.specs.Puts.{ArePuts, put_program, Puts, stored_in}
use Rattle.ring_core.specs.Takes.{AreTakes, take_program, Takes}
use Rattle.ring_player.specs.Actors.{PutTally}

-- the items put, how many items the puts that are over stored, and how many of these found the ring full
pub record PutSoFar (shape : Shape) (events : List Event) (put : List ℕ) (kept : PutTally) : Type 0 where
  pub puts : Puts
  pub are : ArePuts shape 0 puts.puts
  pub begins : IsPrefix events (events_of P (put_program shape puts))
  pub items : items_put shape first_count puts.puts (length events) ≡ put
  pub over : fulls (puts_over shape first_count puts.puts (length events)) ≡ kept.full
  pub stored : stored_in 0 (puts_over shape first_count puts.puts (length events)) ≡ kept.stored

-- the items taken, whether a take returned Closed, and how many found it empty
pub record TakenSoFar (shape : Shape) (events : List Event) (taken : List ℕ) (told : Bool) (empty : ℕ) : Type 0 where
  pub takes : Takes
  pub are : AreTakes shape 0 takes.takes takes.end
  pub begins : IsPrefix events (events_of C (take_program shape takes))
  pub items : items_taken shape first_count takes.takes (length events) ≡ taken
  pub tells : (told ≡ true) ↔ IsTold shape takes (length events)
  pub over : empties (takes_over shape first_count takes.takes (length events)) ≡ empty
  pub ended : all_taken (takes_over shape first_count takes.takes (length events)) ≡ taken
