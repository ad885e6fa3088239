-- What an ended scan of the other side's count returns: how many items an initial part of that side's calls counts, within a range.
use Rattle.std.specs.Prelude.{◌≡◌, ℕ, ◌+◌, ◌-◌, ◌≤◌, ◌%◌, List, length}
use Rattle.bits_core.specs.declared.events.Side.{Side}
use Rattle.bits_core.specs.declared.events.Side.TheVariants.{P, C}
use Rattle.bits_core.specs.declared.events.Event.{Event}
use Rattle.bits_core.specs.declared.shapes.Shape.{Shape}
use Rattle.bits_core.specs.Shape.{batch_of, capacity_of, modulus_of, take_batch_of}
use Rattle.bits_core.specs.Bits.{other}
use Rattle.bits_core.specs.Made.{subhistory, clock, IsPlaceOf, IsPrefix}
use Rattle.register_core.specs.Phrases.{scan_phrase, row_read_by}
use Rattle.ring_core.specs.Puts.{Puts, stored_in, put_program}
use Rattle.ring_core.specs.Takes.{Takes, taken_in, take_program}
use Rattle.ring_core.specs.Items.{puts_begun, puts_ended, takes_begun, takes_ended}
use Rattle.ring_core.specs.CallsAt.{IsPartAt, scan_events}

-- A scan that a side made from its own event number start on, and that returned seen: modulo the modulus, seen is the number of items
-- counted by the first of the other side's calls; not fewer than those of the calls that had ended when the scan began, nor more than
-- those whose count writes had begun when it ended; and a number from least to most.
pub record ReadsCount {X : Type 0}
    (s : Side) (shape : Shape) (h : List Event) (start seen : ℕ) (calls : List X) (items : List X → ℕ) (ended begun : ℕ → ℕ) (least most : ℕ) : Type 0 where
  pub first : ℕ
  pub last : ℕ
  pub begins : IsPlaceOf s h start first
  pub ends : IsPlaceOf s h (start + scan_events s seen - 1) last
  pub counted : List X
  pub are_first : IsPrefix counted calls
  pub value : seen ≡ items counted % modulus_of shape
  pub not_older : ended (clock (other s) h first) ≤ items counted
  pub not_newer : items counted ≤ begun (clock (other s) h last)
  pub low : least ≤ items counted
  pub high : items counted ≤ most

-- an ended scan of the producer, after n items, reads a count from n - capacity - take batch to n
abbrev pub PutsAreInRange : Shape → List Event → Puts → Takes → Type 0
PutsAreInRange shape h puts takes =
    (n start seen : ℕ) → IsPartAt (put_program shape puts) (scan_phrase (row_read_by P) seen) start → start + scan_events P seen ≤ length (subhistory P h) →
    n ≡ puts_begun shape puts start →
    ReadsCount P shape h start seen takes.takes (taken_in 0) (takes_ended shape takes) (takes_begun shape takes) (n - (capacity_of shape + take_batch_of shape)) n

-- an ended scan of the consumer, after k items, reads a count from k - batch to k + capacity
abbrev pub TakesAreInRange : Shape → List Event → Puts → Takes → Type 0
TakesAreInRange shape h puts takes =
    (k start seen : ℕ) → IsPartAt (take_program shape takes) (scan_phrase (row_read_by C) seen) start → start + scan_events C seen ≤ length (subhistory C h) →
    k ≡ takes_begun shape takes start →
    ReadsCount C shape h start seen puts.puts (stored_in 0) (puts_ended shape puts) (puts_begun shape puts) (k - batch_of shape) (k + capacity_of shape)
