-- What a full list implies about the history.
use Rattle.std.proofs.Common.{ℕ, ◌+◌, ◌<◌, false, List, [], ◌∷◌, ◌++◌, length, arith, length-append}
use Rattle.queue_calls.proofs.Common.{Capacity, Event, PutBegin, Free, TakeTurn, Keeps}
use Rattle.queue_calls.specs.Audits.{HasMoreItems}
use Rattle.queue_calls.proofs.Ends.PutBegins.{put_begin}

-- a put begins whose items do not fit after those inside
pub more_items :
    (capacity : Capacity) (h : List Event) (inside items : List ℕ) (take' : TakeTurn) → Keeps capacity h inside Free take' false → 0 < length items → (room : ℕ) →
    room < length inside + length items → HasMoreItems room capacity (h ++ PutBegin items ∷ [])
more_items capacity h inside items take' k some room full = grind (arith, put_begin capacity h inside items take' k some, length items, length inside, length-append inside items)
