-- A program with one more call.
use Rattle.std.specs.Prelude.{◌≡◌, ℕ, true, false, Some, [], ◌∷◌, ◌++◌}
use Rattle.bits_core.specs.declared.events.Bit.TheVariants.{X}
use Rattle.bits_core.specs.declared.shapes.Shape.{Shape}
use Rattle.bits_core.specs.Made.{Write}
use Rattle.ring_core.specs.Puts.{Put, Puts, put_phrase, put_program, stored_after, IsPut, ArePuts}
use Rattle.ring_core.specs.ProducerCalls.{count_of, and_put, and_close}
use Rattle.ring_core.specs.Takes.{Take, Takes, Open, Closed, count_after, take_phrase, end_phrase, take_program, SeesNone, IsTake, AreTakes}
use Rattle.ring_core.specs.Items.{taken_of}
use Rattle.ring_core.specs.ConsumerCalls as takes
use Rattle.ring_core.specs.ConsumerCalls.{and_take, and_end, IsTakeOf, reply_items, take_reply_to, reply_at_end, items_at_end}

-- the calls and one more put: they are puts, their count is that after the put, and its accesses follow theirs
pub record HasPutMore (shape : Shape) (calls : Puts) (x : Put) : Type 0 where
  pub are : ArePuts shape 0 (and_put calls x).puts
  pub count_is : count_of shape (and_put calls x) ≡ stored_after shape (count_of shape calls) x
  pub program_is : put_program shape (and_put calls x) ≡ put_program shape calls ++ put_phrase shape (count_of shape calls) x

-- the law: one more put
abbrev pub PutsByOneMore : Type 0
PutsByOneMore = (shape : Shape) (calls : Puts) (x : Put) → ArePuts shape 0 calls.puts → calls.closes ≡ false → IsPut shape (count_of shape calls).number x → HasPutMore shape calls x

-- and the close
abbrev pub ClosesByOneMore : Type 0
ClosesByOneMore = (shape : Shape) (calls : Puts) → calls.closes ≡ false → put_program shape (and_close calls) ≡ put_program shape calls ++ Write X true ∷ []

-- the calls and one more take: they are takes, its reply and its items are theirs, and its accesses follow theirs
pub record HasOneTakeMore (shape : Shape) (calls : Takes) (x : Take) : Type 0 where
  pub are : AreTakes shape 0 (and_take calls x).takes Open
  pub count_is : takes.count_taken shape (and_take calls x) ≡ count_after shape (takes.count_taken shape calls) x
  pub reply_is : reply_at_end Open (and_take calls x).takes ≡ Some (take_reply_to x)
  pub items_are : items_at_end Open (and_take calls x).takes ≡ taken_of x
  pub program_is : take_program shape (and_take calls x) ≡ take_program shape calls ++ take_phrase shape (takes.count_taken shape calls) x

-- the law: one more take
abbrev pub TakesByOneMore : Type 0
TakesByOneMore = (shape : Shape) (calls : Takes) (x : Take) → AreTakes shape 0 calls.takes calls.end → calls.end ≡ Open → IsTake shape (takes.count_taken shape calls).number x → HasOneTakeMore shape calls x

-- the calls and the take that returns Closed
pub record HasEndMore (shape : Shape) (calls : Takes) (seen again : ℕ) : Type 0 where
  pub are : AreTakes shape 0 calls.takes (Closed seen again)
  pub program_is : take_program shape (and_end calls seen again) ≡ take_program shape calls ++ end_phrase (Closed seen again)

-- and the take that returns Closed
abbrev pub EndsByOneMore : Type 0
EndsByOneMore =
    (shape : Shape) (calls : Takes) (seen again : ℕ) → AreTakes shape 0 calls.takes calls.end → calls.end ≡ Open →
    SeesNone shape (takes.count_taken shape calls).number seen → SeesNone shape (takes.count_taken shape calls).number again → HasEndMore shape calls seen again

-- one more take, of at most one item, takes exactly the item of its reply
abbrev pub TakesOfOne : Type 0
TakesOfOne =
    (shape : Shape) (calls : Takes) (x : Take) → AreTakes shape 0 (and_take calls x).takes Open → IsTakeOf shape (takes.count_taken shape calls).number 1 x →
    taken_of x ≡ reply_items (take_reply_to x)
