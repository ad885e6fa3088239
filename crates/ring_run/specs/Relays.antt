-- The result of a relay's work on its two ends.
use Rattle.std.specs.Prelude.{◌≡◌, ◌⊎◌, ℕ, ◌+◌, ◌-◌, ◌<◌, ◌≤◌, ◌==◌, Bool, false, List, [], ◌∷◌, length, min, take, drop, if◌then◌else◌}
use Rattle.bits_core.specs.declared.shapes.Shape.{Shape}
use Rattle.bits_core.specs.declared.events.Event.{Event}
use Rattle.bits_core.specs.declared.events.Side.TheVariants.{P, C}
use Rattle.bits_core.specs.Made.{subhistory}
use Rattle.ring_seats.specs.Programs.{IsRing}
use Rattle.ring_core.specs.Linear.{EachReadingIsLinearizable}
use Rattle.ring_core.specs.Puts.{Put, Puts, Full, number_after}
use Rattle.ring_core.specs.Takes.{Take, Takes, Item, ItemAfterClose, Empty, taken_after}
use Rattle.ring_core.specs.Items.{all_put, all_taken}
use Rattle.bits_core.specs.Shape.{batch_of, take_batch_of}
use Rattle.ring_core.specs.CallsAt.{stored_by}
use Rattle.ring_core.specs.ProducerCalls.{IsPutOf, and_put}
use Rattle.ring_core.specs.Over.{fulls, empties}
use Rattle.ring_core.specs.ConsumerCalls.{and_take, ends_closed, IsTakeOf}
use Rattle.ring_ends.specs.Ends.{HasPuts, HasTakes}

-- These puts, after n items, were offered the items in order: each as many of those not yet stored as the shape's batch has,
-- or all if fewer are left.
abbrev pub AreGiven : Shape → ℕ → List ℕ → List Put → Type 0
AreGiven shape n items [] = Unit {0}
AreGiven shape n items (x ∷ puts) =
    IsPutOf shape n (take (batch_of shape) items) x × AreGiven shape (number_after n x) (drop (stored_by x) items) puts

-- the list is of `made` puts, which were offered the items in this way, stored the first `put` of them in order and of which
-- `full` found the ring full, and perhaps of a close
pub record PutsAre (shape : Shape) (list : List Event) (items : List ℕ) (put made full : ℕ) (closes : Bool) : Type 0 where
  pub calls : Puts
  pub list_is : HasPuts shape list calls
  pub given : AreGiven shape 0 items calls.puts
  pub in_order : all_put calls.puts ≡ take put items
  pub within : put ≤ length items
  pub made_is : length calls.puts ≡ made
  pub full_is : fulls calls.puts ≡ full
  pub closes_is : calls.closes ≡ closes

-- the last call of the list is a put that found the ring full
pub record EndsFull (shape : Shape) (list : List Event) : Type 0 where
  pub before : Puts
  pub seen : ℕ
  pub list_is : HasPuts shape list (and_put before (Full seen))

-- all items were stored, or as many puts as the limit were made, or the last one found the ring full; there is a
-- close if and only if all were stored
pub record HasRelayedPuts (shape : Shape) (list : List Event) (items : List ℕ) (limit put made full : ℕ) : Type 0 where
  pub puts : PutsAre shape list items put made full (put == length items)
  pub most : made ≤ limit
  pub all_or_limit : (put ≡ length items) ⊎ ((made ≡ limit) ⊎ EndsFull shape list)

-- how much of a relay's limit a take uses up: one for each item that it took, and one if it found the ring empty
abbrev pub used_by : Take → ℕ
used_by (Item seen items) = length items
used_by (ItemAfterClose seen again items) = length items
used_by (Empty seen) = 1

-- These takes, after k items, with this much left of the limit, requested items in turn: each for as many as the shape's take
-- batch, or for as many as were left if these are fewer.
abbrev pub AreAsked : Shape → ℕ → (left : ℕ) → List Take → Type 0
AreAsked shape k left [] = Unit {0}
AreAsked shape k left (x ∷ takes) =
    IsTakeOf shape k (min (take_batch_of shape) left) x × AreAsked shape (taken_after k x) (left - used_by x) takes

-- the list is of `made` takes of these items, in order, which requested them in this way, of which `empty` found the ring empty, and
-- perhaps one returned Closed
pub record TakesAre (shape : Shape) (list : List Event) (limit : ℕ) (taken : List ℕ) (made empty : ℕ) (told : Bool) : Type 0 where
  pub calls : Takes
  pub list_is : HasTakes shape list calls
  pub asked : AreAsked shape 0 limit calls.takes
  pub taken_is : all_taken calls.takes ≡ taken
  pub made_is : length calls.takes + (if told then 1 else 0) ≡ made
  pub empty_is : empties calls.takes ≡ empty
  pub told_is : ends_closed calls.end ≡ told

-- the last call of the list is a take that found the ring empty
pub record EndsEmpty (shape : Shape) (list : List Event) : Type 0 where
  pub before : Takes
  pub seen : ℕ
  pub list_is : HasTakes shape list (and_take before (Empty seen))

-- The items taken and the takes that brought none are at most as many as the limit, and so are the takes. If none returned Closed, they are
-- as many, or the last take found the ring empty.
pub record HasRelayedTakes (shape : Shape) (list : List Event) (limit : ℕ) (taken : List ℕ) (made empty : ℕ) (closed : Bool) : Type 0 where
  pub takes : TakesAre shape list limit taken made empty closed
  pub most : length taken + empty + (if closed then 1 else 0) ≤ limit
  pub all : closed ≡ false → (length taken + empty ≡ limit) ⊎ EndsEmpty shape list

-- complete takes were made, within the limit; they took more items than this number, and none returned Closed
pub record HasTakenMore (shape : Shape) (list : List Event) (limit number : ℕ) : Type 0 where
  pub taken : List ℕ
  pub made : ℕ
  pub empty : ℕ
  pub takes : TakesAre shape list limit taken made empty false
  pub most : length taken + empty ≤ limit
  pub more : number < length taken

-- all possible results of a relay's puts
pub record HasMadePuts (shape : Shape) (list : List Event) (items : List ℕ) (limit : ℕ) : Type 0 where
  pub put : ℕ
  pub made : ℕ
  pub full : ℕ
  pub puts : HasRelayedPuts shape list items limit put made full

-- one lawful history, whose two sides follow their programs, has these counts; its calls are linearizable
pub record IsRelayed (shape : Shape) (items : List ℕ) (most_puts most_takes put made full : ℕ) (taken : List ℕ) (made_takes empty : ℕ) (closed : Bool) : Type 0 where
  pub history : List Event
  pub ring : IsRing shape history
  pub puts : HasRelayedPuts shape (subhistory P history) items most_puts put made full
  pub takes : HasRelayedTakes shape (subhistory C history) most_takes taken made_takes empty closed
  pub linearizable : EachReadingIsLinearizable shape history
