-- What a caller of the ends may rely on.
use Rattle.std.specs.Prelude.{◌≡◌, ℕ, ◌+◌, ◌≤◌, false, List, length}
use Rattle.bits_core.specs.declared.shapes.Shape.{Shape}
use Rattle.bits_core.specs.declared.events.Side.TheVariants.{P, C}
use Rattle.bits_core.specs.declared.events.Event.{Event}
use Rattle.bits_core.specs.Shape.{capacity_of}
use Rattle.bits_core.specs.Made.{subhistory, IsPrefix}
use Rattle.ring_core.specs.declared.replies.PutReply.TheVariants as single
use Rattle.ring_core.specs.declared.replies.BatchReply.{BatchReply}
use Rattle.ring_core.specs.declared.replies.BatchReply.TheVariants as several
use Rattle.ring_core.specs.declared.replies.TakeReply.{TakeReply}
use Rattle.ring_core.specs.declared.replies.TakeReply.TheVariants as single_take
use Rattle.ring_core.specs.declared.replies.TakeBatchReply.{TakeBatchReply}
use Rattle.ring_core.specs.declared.replies.TakeBatchReply.TheVariants as several_take
use Rattle.ring_core.specs.Puts.{Puts}
use Rattle.ring_core.specs.Takes.{Takes}
use Rattle.ring_core.specs.Items.{all_put, all_taken}
use Rattle.ring_seats.specs.Rule.{Stands}
use Rattle.ring_ends.specs.Ends.{HasPuts, HasPut, HasPutAll, HasTakes, HasTaken, HasTakenAll}
pub use Rattle.ring_seats.specs.Laws.{PutsAreShown, TakesAreShown, WordsAreTold}

-- A taker knows a history, whose puts are whole, and has made complete takes, those of that history among them. If the next take
-- finds the ring empty, each item of these puts was taken before it, and no close follows them.
abbrev pub EmptyAfterMeeting : Type 0
EmptyAfterMeeting =
    (shape : Shape) (known before after : List Event) (puts : Puts) (takes : Takes) (wanted : ℕ) (into : List ℕ) →
    HasPuts shape (subhistory P known) puts → HasTakes shape before takes → IsPrefix (subhistory C known) before →
    Stands shape C after known → HasTakenAll shape wanted before after several_take.Empty into →
    (length (all_put puts.puts) ≤ length (all_taken takes.takes)) × (puts.closes ≡ false)

-- the same if the next take is of a single item
abbrev pub ItemEmptyAfterMeeting : Type 0
ItemEmptyAfterMeeting =
    (shape : Shape) (known before after : List Event) (puts : Puts) (takes : Takes) →
    HasPuts shape (subhistory P known) puts → HasTakes shape before takes → IsPrefix (subhistory C known) before →
    Stands shape C after known → HasTaken shape before after single_take.Empty →
    (length (all_put puts.puts) ≤ length (all_taken takes.takes)) × (puts.closes ≡ false)

-- A putter knows a history, whose takes are whole, and has made complete puts, those of that history among them. If the next put
-- finds the ring full, the items of its puts, less those of these takes, are at least the capacity.
abbrev pub FullAfterMeeting : Type 0
FullAfterMeeting =
    (shape : Shape) (known before after : List Event) (takes : Takes) (puts : Puts) (items : List ℕ) →
    HasTakes shape (subhistory C known) takes → HasPuts shape before puts → IsPrefix (subhistory P known) before →
    Stands shape P after known → HasPutAll shape items before after several.Full →
    length (all_taken takes.takes) + capacity_of shape ≤ length (all_put puts.puts)

-- the same if the next put is of a single item
abbrev pub ItemFullAfterMeeting : Type 0
ItemFullAfterMeeting =
    (shape : Shape) (known before after : List Event) (takes : Takes) (puts : Puts) (item : ℕ) →
    HasTakes shape (subhistory C known) takes → HasPuts shape before puts → IsPrefix (subhistory P known) before →
    Stands shape P after known → HasPut shape item before after single.Full →
    length (all_taken takes.takes) + capacity_of shape ≤ length (all_put puts.puts)

-- a put only adds to the list
abbrev pub PutsAdd : Type 0
PutsAdd = (shape : Shape) (items : List ℕ) (before after : List Event) (reply : BatchReply) → HasPutAll shape items before after reply → IsPrefix before after

-- a take only adds to the list
abbrev pub TakesAdd : Type 0
TakesAdd =
    (shape : Shape) (wanted : ℕ) (before after : List Event) (reply : TakeBatchReply) (into : List ℕ) →
    HasTakenAll shape wanted before after reply into → IsPrefix before after

-- and so does a take of a single item
abbrev pub ItemTakesAdd : Type 0
ItemTakesAdd = (shape : Shape) (before after : List Event) (reply : TakeReply) → HasTaken shape before after reply → IsPrefix before after
