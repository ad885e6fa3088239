-- What complete calls of a history add up to.
use Rattle.std.specs.Prelude.{◌≡◌, List, length}
use Rattle.bits_core.specs.declared.events.Side.TheVariants.{P, C}
use Rattle.bits_core.specs.declared.events.Event.{Event}
use Rattle.bits_core.specs.declared.shapes.Shape.{Shape}
use Rattle.bits_core.specs.Made.{events_of, subhistory}
use Rattle.ring_core.specs.Puts.{Puts, put_program, ArePuts}
use Rattle.ring_core.specs.Takes.{Takes, take_program, AreTakes}
use Rattle.ring_core.specs.Items.{all_put, all_taken, items_put_in, items_taken_in}
use Rattle.ring_core.specs.CallsAt.{puts_begun, takes_begun}

-- if the producer's events are those of complete calls, all their items are put, and as many are counted by the count writes
-- that have begun
abbrev pub WholePutsCount : Type 0
WholePutsCount =
    (shape : Shape) (h : List Event) (calls : Puts) → ArePuts shape 0 calls.puts → subhistory P h ≡ events_of P (put_program shape calls) →
    (items_put_in shape h calls ≡ all_put calls.puts) × (puts_begun shape calls (length (subhistory P h)) ≡ length (all_put calls.puts))

-- if the consumer's events are those of complete calls, all their items are taken, and as many are counted by its count writes
abbrev pub WholeTakesCount : Type 0
WholeTakesCount =
    (shape : Shape) (h : List Event) (calls : Takes) → AreTakes shape 0 calls.takes calls.end → subhistory C h ≡ events_of C (take_program shape calls) →
    (items_taken_in shape h calls ≡ all_taken calls.takes) × (takes_begun shape calls (length (subhistory C h)) ≡ length (all_taken calls.takes))
