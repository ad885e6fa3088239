-- The result of a meeting of two ends.
use Rattle.std.specs.Prelude.{◌≡◌, true, List}
use Rattle.bits_core.specs.declared.events.Side.TheVariants.{P, C}
use Rattle.bits_core.specs.declared.events.Event.{Event}
use Rattle.bits_core.specs.Made.{subhistory, IsPrefix}
use Rattle.ring_seats.specs.declared.views.View.{View}
use Rattle.ring_seats.specs.Ring.{RingEnd}
use Rattle.ring_seats.specs.Programs.{IsRing}

-- the same end, except for what it knows
pub record KeepsEnd (a b : RingEnd) : Type 0 where
  pub ring : b.ring ≡ a.ring
  pub side : b.side ≡ a.side
  pub list : b.list ≡ a.list

-- h is lawful, its sides are the two lists and follow their programs, and it begins with what each end knew
pub record Meets (p c : RingEnd) (h : List Event) : Type 0 where
  pub ring : IsRing p.ring.shape h
  pub put : subhistory P h ≡ p.list
  pub taken : subhistory C h ≡ c.list
  pub putter_knew : IsPrefix p.known h
  pub taker_knew : IsPrefix c.known h

-- the seat may step for both sides, and its lists are the two sides of the history that it knows
pub record KnowsAll (v : View) : Type 0 where
  pub puts : v.puts ≡ true
  pub takes : v.takes ≡ true
  pub put : subhistory P v.known ≡ v.put
  pub taken : subhistory C v.known ≡ v.taken
