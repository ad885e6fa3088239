-- A slot that holds something, and its raw box, own what a box of the same types owns.
use mir.Syntax.{impl, tnil, dnil}
use mathlib.Core.List.{[]}
use Rattle.std.proofs.Common.{◌≡◌, refl, sym, true≢false, Option, Some, None, IsSome}
use denote.Signature.{Slot, plain}
use Rattle.std_alloc.proofs.BoxSteps.Form.{Bx}
use denote.RattleType.{RattleType}
use Rattle.std_heap.specs.contracts.Global as Heap-of
use Rattle.std_heap.specs.contracts.GlobalAllocator.TheImpl.{ghosts, dict}
use Rattle.std_heap.proofs.Global.TheLaws as heap
use Rattle.ring_held.proofs.putters.HeldPutter.TheLaws as putter
use Rattle.ring_held.proofs.takers.HeldTaker.TheLaws as taker
use Rattle.ring_c.specs.Owned.{PutterRow, TakerRow}
use Rattle.ring_c.specs.contracts.raws.Raw as Raw
use Rattle.ring_c.specs.contracts.slots.PutterSlot as PutterSlot
use Rattle.ring_c.specs.contracts.slots.TakerSlot as TakerSlot

abbrev pub Heap : RattleType
Heap = Heap-of.the_row

abbrev pub EP : Bx
EP = record { row = PutterRow; laws = putter.the_row_laws Heap ghosts heap.the_row_laws; al = record { row = Heap; laws = heap.the_row_laws; g = ghosts; d = dict; drops = impl [] tnil dnil } }

abbrev pub ET : Bx
ET = record { row = TakerRow; laws = taker.the_row_laws Heap ghosts heap.the_row_laws; al = record { row = Heap; laws = heap.the_row_laws; g = ghosts; d = dict; drops = impl [] tnil dnil } }

abbrev pub FromRawP : Slot 0
FromRawP = plain (λ _. Raw.the_row PutterRow Heap ghosts)

abbrev pub FromRawT : Slot 0
FromRawT = plain (λ _. Raw.the_row TakerRow Heap ghosts)

abbrev pub FromSlotP : Slot 0
FromSlotP = plain (λ _. PutterSlot.the_row)

abbrev pub FromSlotT : Slot 0
FromSlotT = plain (λ _. TakerSlot.the_row)

pub value_of : {A : Type 0} (o : Option A) → IsSome o → (x : A) × (o ≡ Some x)
value_of None h = absurd (true≢false (sym h))
value_of (Some x) h = (x, refl)
