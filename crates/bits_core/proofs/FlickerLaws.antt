-- The reads that count as flickers, by their intervals.
use Rattle.std.proofs.Common.{◌≡◌, ℕ, true, false, Option, Some, ◌≤◌, Bool, List, ◌∷◌, ◌++◌, length, take, refl, ap, sym, subst, ◌∙◌, [], None}
use Rattle.std.specs.Prelude.{◌↔◌, if◌then◌else◌, slice_get}
use Rattle.std.specs.Option.{option_map_or}
use Rattle.bits_core.proofs.Common.{false≢true, Side, Bit, Act, ReadBegin, ReadEnd, WriteBegin, WriteEnd, Read, Event, Shape, open_access, is_overlapped, held_at_begin, IsLawful}
use Rattle.bits_core.specs.Intervals.{IsRead, IsOpenAt, end_of}
use Rattle.bits_core.specs.Laws.{FlickerIsByInterval}
use Rattle.bits_core.specs.Memory.{EndsOverlappedRead, is_flicker}
use Rattle.bits_core.proofs.Changes.{same_side-same}
use Rattle.bits_core.proofs.LawfulLemmas.{ends_at}
use Rattle.bits_core.proofs.LawProofs.{lawful_by_one_more, overlap_is_by_interval}
use Rattle.bits_core.proofs.Flickers.{MayFollow-answer, is_flicker_at-last}

-- an event that counts ends a read that a write overlaps
from_event : (shape : Shape) (h : List Event) (place : ℕ) (s : Side) (b : Bit) (a : Act) → IsLawful shape h → slice_get h place ≡ Some (record { side = s; bit = b; act = a })
    → is_flicker (take place h) (record { side = s; bit = b; act = a }) ≡ true → EndsOverlappedRead h place
from_event shape h place s b ReadBegin lawful at flickers = absurd (false≢true flickers)
from_event shape h place s b (WriteBegin v) lawful at flickers = absurd (false≢true flickers)
from_event shape h place s b WriteEnd lawful at flickers = absurd (false≢true flickers)
from_event shape h place s b (ReadEnd v) lawful at flickers =
    let e : Event = record { side = s; bit = b; act = ReadEnd v } in
    let o : IsOpenAt h s (Read b) place = (lawful.each place e at).in_turn in
    let start : ℕ = o.0 in
    let stop : place ≡ end_of s h start = ends_at h s start place e o.3 (subst (λ n. place ≤ n) o.2.ends o.4) at (same_side-same s) in
    let read : IsRead h s b start place v = record { access = record { event = o.2.event; at_start = o.2.at_start; by_side = o.2.by_side; begins = o.2.begins; ends = stop }; ends = at } in
    record { side = s; bit = b; answer = v; start = start; read = read; overlap = (overlap_is_by_interval shape h lawful s b start place v read).1 flickers }

from_place : (shape : Shape) (h : List Event) (place : ℕ) → IsLawful shape h → (o : Option Event) → slice_get h place ≡ o → option_map_or (is_flicker (take place h)) o false ≡ true → EndsOverlappedRead h place
from_place shape h place lawful None at flickers = absurd (false≢true flickers)
from_place shape h place lawful (Some e) at flickers = from_event shape h place e.side e.bit e.act lawful at flickers

pub flicker_is_by_interval : FlickerIsByInterval
flicker_is_by_interval shape h lawful place = (
  λ flickers. from_place shape h place lawful (slice_get h place) refl flickers,
  λ r.
      ap (λ (o : Option Event). option_map_or (is_flicker (take place h)) o false) r.read.ends
      ∙ (overlap_is_by_interval shape h lawful r.side r.bit r.start place r.answer r.read).0 r.overlap,
)

-- the read that ends next is overlapped by its intervals, if it is by the events so far
pub ends_overlapped : (shape : Shape) (h : List Event) (s : Side) (b : Bit) (asked v : Bool) → IsLawful shape h → open_access s h ≡ Some (Read b)
    → v ≡ (if is_overlapped s b h then asked else held_at_begin s b h)
    → (is_overlapped s b h ≡ true) ↔ EndsOverlappedRead (h ++ record { side = s; bit = b; act = ReadEnd v } ∷ []) (length h)
ends_overlapped shape h s b asked v lawful still answer =
    let e : Event = record { side = s; bit = b; act = ReadEnd v } in
    let then_lawful : IsLawful shape (h ++ e ∷ []) = (lawful_by_one_more shape h e).1 (lawful, MayFollow-answer shape h s b asked v lawful still answer) in
    let law = flicker_is_by_interval shape (h ++ e ∷ []) then_lawful (length h) in
    (λ o. law.0 (is_flicker_at-last h e ∙ o), λ r. sym (is_flicker_at-last h e) ∙ law.1 r)
