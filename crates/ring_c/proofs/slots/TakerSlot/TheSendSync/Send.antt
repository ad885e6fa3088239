use mir.Raw.{raw}
use base.Shift.{Keyless}
use denote.Memory.{lone}
use denote.RawPtr.{Ptr}
use denote.Struct.Struct.{exits_of}
use denote.Struct.Owning.{shape, fields, to}
use denote.Param.Send.{IsSend, AllSend, owning_send, struct_send, sendable}
use Rattle.std.specs.Prelude.{Some, None}
use Rattle.std.specs.Global.{Global}
use Rattle.std.proofs.Crossing as heap
use Rattle.std_alloc.proofs.SendSync.{quiet, lies}
use Rattle.std_heap.specs.contracts.Global as Heap
use Rattle.std_heap.specs.contracts.GlobalAllocator.TheImpl.{ghosts}
use Rattle.std_heap.proofs.Global.TheSendSync as handle
use Rattle.ring_held.proofs.takers.HeldTaker.TheSendSync.{the_send}
use Rattle.ring_c.specs.Owned.{KeptEnd, TakerRow, taker_owns}
use Rattle.ring_c.specs.contracts.slots.TakerSlot.{the_row, the_type}

held : IsSend TakerRow
held = the_send Heap.the_row ghosts handle.the_send handle.the_sync heap.frees

keyless : (a : Global) (p : Ptr) (k : KeptEnd) → Keyless (taker_owns a p k)
keyless a p (Some x) = (lies TakerRow held p x, heap.frees.frees a (raw (lone TakerRow.mir)) p)
keyless a p None = tt

pub send : IsSend the_row
send =
    let all : AllSend (fields the_type) = (search sendable, (handle.the_field_send, tt)) in
    owning_send the_type all (λ d. keyless d.alloc d.at d.value)
    (λ k. quiet (to the_type) (exits_of k (fields the_type)) ((struct_send (shape the_type) all).leaving k))
