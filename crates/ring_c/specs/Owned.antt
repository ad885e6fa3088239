-- What C owns with an end.
use Rattle.std.specs.Prelude.{Option, Some, None}
use Rattle.std.specs.Coded.{Coded, coded_option}
use base.Fml.{Fml, ftrue}
use denote.RattleType.{RattleType}
use denote.RawPtr.{Ptr}
use Rattle.std.specs.Box.Ownership.{box_owns}
use Rattle.std.specs.Global.{Global}
use Rattle.std_heap.specs.contracts.Global as Heap
use Rattle.std_heap.specs.contracts.GlobalAllocator.TheImpl.{ghosts}
use Rattle.ring_seats.specs.Ring.{RingEnd}
use Rattle.ring_held.specs.contracts.putters.HeldPutter as Putter
use Rattle.ring_held.specs.contracts.takers.HeldTaker as Taker

-- the ends whose memory is of the global allocator
abbrev pub PutterRow : RattleType
PutterRow = Putter.the_row Heap.the_row ghosts

-- the same for the end that takes
abbrev pub TakerRow : RattleType
TakerRow = Taker.the_row Heap.the_row ghosts

-- what a handle has of an end, if it has one
abbrev pub KeptEnd : Type 0
KeptEnd = Option RingEnd

-- how what a handle has of an end is represented
abbrev pub kept_end_coded : Coded KeptEnd
kept_end_coded = coded_option PutterRow.coded

-- nothing, or the box of the end
abbrev pub putter_owns : Global → Ptr → KeptEnd → Fml
putter_owns alloc at (Some x) = box_owns (ghosts.dealloc_token alloc) PutterRow at x
putter_owns alloc at None = ftrue

-- the same for the end that takes
abbrev pub taker_owns : Global → Ptr → KeptEnd → Fml
taker_owns alloc at (Some x) = box_owns (ghosts.dealloc_token alloc) TakerRow at x
taker_owns alloc at None = ftrue
