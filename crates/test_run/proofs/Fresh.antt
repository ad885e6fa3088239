-- An end that has made no call, and knows nothing yet, knows that there is room.
use Rattle.std.proofs.Common.{◌≡◌, List, [], refl, sym, subst, arith}
use Rattle.bits_core.specs.declared.events.Event.{Event}
use Rattle.bits_core.specs.declared.events.Side.TheVariants.{P, C}
use Rattle.bits_core.specs.Made.{subhistory, IsPrefix}
use Rattle.ring_core.specs.ProducerCalls.{no_puts}
use Rattle.ring_core.specs.ConsumerCalls.{no_takes}
use Rattle.ring_run.specs.Ring.{RingEnd}
use Rattle.ring_run.specs.Ends.{HasPuts, HasTakes}
use Rattle.test_run.specs.Room.{KnowsRoom}

pub fresh_knows : (e : RingEnd) → e.list ≡ [] → e.known ≡ [] → KnowsRoom e
fresh_knows e no_call nothing = record {
  takes = no_takes;
  puts = no_puts;
  taken = subst (λ (l : List Event). HasTakes e.ring.shape (subhistory C l) no_takes) (sym nothing) (record { are = tt; list_is = refl });
  put = subst (λ (l : List Event). HasPuts e.ring.shape l no_puts) (sym no_call) (record { are = tt; list_is = refl });
  begins = subst (λ (l : List Event). IsPrefix (subhistory P l) e.list) (sym nothing) (e.list, refl);
  room = omega (arith, e.ring.shape.has_cells);
}
