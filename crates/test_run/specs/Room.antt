-- What a putter may know about the room in its ring.
use Rattle.std.specs.Prelude.{ℕ, ◌+◌, ◌<◌, length}
use Rattle.bits_core.specs.declared.events.Side.TheVariants.{P, C}
use Rattle.bits_core.specs.Shape.{capacity_of}
use Rattle.bits_core.specs.Made.{subhistory, IsPrefix}
use Rattle.ring_core.specs.Puts.{Puts}
use Rattle.ring_core.specs.Takes.{Takes}
use Rattle.ring_core.specs.Items.{all_put, all_taken}
use Rattle.ring_run.specs.Ring.{RingEnd}
use Rattle.ring_run.specs.Ends.{HasPuts, HasTakes}

-- the items that its puts stored, less those of the takes that it knows, are fewer than the capacity
pub record KnowsRoom (e : RingEnd) : Type 0 where
  pub takes : Takes
  pub puts : Puts
  pub taken : HasTakes e.ring.shape (subhistory C e.known) takes
  pub put : HasPuts e.ring.shape e.list puts
  pub begins : IsPrefix (subhistory P e.known) e.list
  pub room : length (all_put puts.puts) < length (all_taken takes.takes) + capacity_of e.ring.shape
