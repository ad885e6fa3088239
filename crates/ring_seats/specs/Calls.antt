-- Lists of complete calls of a side, and the reply of a take.
use Rattle.std.specs.Prelude.{◌≡◌, Bool, true, false, Option, Some, None, List}
use Rattle.bits_core.specs.declared.shapes.Shape.{Shape}
use Rattle.bits_core.specs.declared.events.Side.TheVariants.{P, C}
use Rattle.bits_core.specs.declared.events.Event.{Event}
use Rattle.bits_core.specs.Made.{events_of}
use Rattle.ring_core.specs.declared.replies.TakeReply.{TakeReply}
use Rattle.ring_core.specs.declared.replies.TakeReply.TheVariants.{Item, Empty, Closed}
use Rattle.ring_core.specs.Puts.{Puts, put_program, ArePuts}
use Rattle.ring_core.specs.Takes.{Takes, take_program, AreTakes}
use Rattle.ring_core.specs.ConsumerCalls.{reply_at_end}

-- the list is that of these complete calls
pub record HasPuts (shape : Shape) (list : List Event) (calls : Puts) : Type 0 where
  pub are : ArePuts shape 0 calls.puts
  pub list_is : list ≡ events_of P (put_program shape calls)

-- the list is that of these complete takes
pub record HasTakes (shape : Shape) (list : List Event) (calls : Takes) : Type 0 where
  pub are : AreTakes shape 0 calls.takes calls.end
  pub list_is : list ≡ events_of C (take_program shape calls)

-- the reply of the last of these takes
abbrev pub IsTakeReply : Takes → TakeReply → Type 0
IsTakeReply calls reply = Some reply ≡ reply_at_end calls.end calls.takes

-- whether a take returned Closed
abbrev pub closed_reply : Option TakeReply → Bool
closed_reply None = false
closed_reply (Some (Item i)) = false
closed_reply (Some Empty) = false
closed_reply (Some Closed) = true
