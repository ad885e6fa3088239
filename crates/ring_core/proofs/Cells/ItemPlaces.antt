-- Where an item is stored and where it is taken, by the call that does it.
use Rattle.std.proofs.Common.{arith}
use Rattle.std.specs.Prelude.{◌≡◌, ℕ, ◌+◌, ◌-◌, ◌*◌, ◌%◌, Some, List, slice_get}
use Rattle.ring_core.proofs.Common.{P, C, Shape, capacity_of, width_of, Made, Takes, accesses_before_word, events_in, taken_of, IsPutAt, IsTakeAt, IsInterval}
use Rattle.bits_core.specs.declared.events.Event.{Event}
use Rattle.bits_core.specs.Intervals as intervals
use Rattle.register_core.specs.Phrases.{scan_phrase, row_read_by}
use Rattle.ring_core.specs.Puts.{Put, Puts}
use Rattle.ring_core.proofs.OverSpans.CallSpans.{put_seen, put_items}

-- Item number j is one of those of a call whose own events end before stop: the digits of the item's word are accessed from the side's
-- own event number word on, after what the call accesses before its words.
pub record HasItem {X : Type 0} (IsAt : X → (n start stop : ℕ) → Type 0) (front : X → List Made) (items : X → List ℕ) (width j item word stop : ℕ) : Type 0 where
  pub call : X
  pub n : ℕ
  pub start : ℕ
  pub index : ℕ
  pub is_call : IsAt call n start stop
  pub has : slice_get (items call) index ≡ Some item
  pub number : j ≡ n + index
  pub word_is : word ≡ start + events_in (front call) + 2 * (index * width)

-- an item of a call that is there
pub has_item :
    {X : Type 0} → (IsAt : X → (n start stop : ℕ) → Type 0) (front : X → List Made) (items : X → List ℕ) (width : ℕ) (x : X) (n start stop index item : ℕ) → IsAt x n start stop →
    slice_get (items x) index ≡ Some item → HasItem IsAt front items width (n + index) item (start + events_in (front x) + 2 * (index * width)) stop
has_item IsAt front items width x n start stop index item at e = grind arith

-- it is stored by a put, and taken by a take
abbrev pub put_scan : Put → List Made
put_scan x = scan_phrase (row_read_by P) (put_seen x)

abbrev pub StoresItem : Shape → Puts → (j item word stop : ℕ) → Type 0
StoresItem shape calls = HasItem (IsPutAt shape calls) put_scan put_items (width_of shape)

abbrev pub TakesItem : Shape → Takes → (k item word stop : ℕ) → Type 0
TakesItem shape calls = HasItem (IsTakeAt shape calls) accesses_before_word taken_of (width_of shape)

-- if two items have the same cell, the word write of the first and the word read of the second do not overlap
abbrev pub ItemsAreQuiet : Shape → List Event → Puts → Takes → Type 0
ItemsAreQuiet shape h puts takes =
    (j item word past : ℕ) → StoresItem shape puts j item word past →
    (k item' word' past' : ℕ) → TakesItem shape takes k item' word' past' → j % capacity_of shape ≡ k % capacity_of shape →
    (start stop start' stop' : ℕ) → IsInterval P h word (word + 2 * width_of shape - 1) start stop →
    IsInterval C h word' (word' + 2 * width_of shape - 1) start' stop' → ¬ intervals.Overlap start stop start' stop'
