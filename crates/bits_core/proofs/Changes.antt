-- How what an event may do changes with one more event at the end.
use Rattle.std.proofs.Common.{◌≡◌, ℕ, suc, Bool, true, false, ◌||◌, Option, Some, None, List, ◌∷◌, ◌++◌, refl, [], ap, ◌∙◌, cond, arith, append-nil}
use Rattle.std.proofs.lemmas.Bool.Decides.{nat_tests}
use Rattle.bits_core.proofs.Common.{slice_get, is_some, if◌then◌else◌, unwrap_or, or_parts, false≢true, Side, Bit, Act, Event, Shape, writer, doer, is_by, same_side, same_bit}
use Rattle.bits_core.proofs.Common.{begun_by, begun_access, write_of, value_written}
use Rattle.std.specs.Option.{option_to_list}
use Rattle.std.specs.Prelude.{option_and_then}
use Rattle.std.specs.List.{cons_option}
use Rattle.bits_core.specs.History.{has_event, last_event, before_last, open_write, writes_begun, writes_ended, last_value, held, held_at_begin, is_overlapped}
use Rattle.bits_core.proofs.StepLemmas.{EachMayFollow}
use Rattle.bits_core.proofs.Histories.{before_last-push, open_access-push, last_value-push, after_last-at, after_last-not}
use Rattle.std.proofs.lemmas.List.Elements.{filter_map-append}

-- the tests of two sides and of two bits
pub same_side-same : (s : Side) → same_side s s ≡ true
same_side-same s = grind arith

pub same_bit-true : (a b : Bit) → same_bit a b ≡ true → a ≡ b
same_bit-true a b e = grind (arith, nat_tests)

-- each event of a list is by the side that may do it
abbrev pub AllByDoer : List Event → Type 0
AllByDoer [] = Unit {0}
AllByDoer (e ∷ es) = (e.side ≡ doer e.bit e.act) × AllByDoer es

pub AllByDoer-each : (h : List Event) → ((p : ℕ) (e : Event) → slice_get h p ≡ Some e → e.side ≡ doer e.bit e.act) → AllByDoer h
AllByDoer-each [] each = tt
AllByDoer-each (x ∷ h) each = (each 0 x refl, AllByDoer-each h (λ p e at. each (suc p) e at))

pub AllByDoer-lawful : (shape : Shape) (h : List Event) → EachMayFollow shape h → AllByDoer h
AllByDoer-lawful shape h lawful = AllByDoer-each h (λ p e at. (lawful.each p e at).right_side.by_doer)

-- an event that begins a write of a bit is by its writer
not_written : (b c : Bit) (s : Side) (a : Act) → s ≡ doer c a → same_side (writer b) s ≡ false → value_written b (begun_access c a) ≡ None
not_written b c s a by not_by = grind (arith, same_bit-true, same_side-same, false≢true)

pub writes_begun-none : (b : Bit) (h : List Event) → AllByDoer h → has_event (writer b) h ≡ false → writes_begun b h ≡ []
writes_begun-none b [] by none = refl
writes_begun-none b (x ∷ h) by none =
    grind (arith, or_parts, not_written, writes_begun-none b h by.1 (or_parts (is_by (writer b) x) (has_event (writer b) h) none).1)

-- the writes of a bit that began are those that ended, and the one that is open
pub writes_begun-parts : (b : Bit) (h : List Event) → AllByDoer h → writes_begun b h ≡ writes_ended b h ++ option_to_list (open_write b h)
writes_begun-parts b [] by = refl
writes_begun-parts b (x ∷ h) by =
    let w : Side = writer b in
    elim (has_event w h) as (λ t. has_event w h ≡ t → cons_option (write_of b x) (writes_begun b h) ≡ writes_begun b (cond t (x ∷ before_last w h) []) ++ option_to_list (value_written b (option_and_then begun_by (cond t (last_event w h) (cond (is_by w x) (Some x) None))))) [
      | true ↦ λ some. elim (write_of b x) as (λ o. cons_option o (writes_begun b h) ≡ cons_option o (writes_ended b h) ++ option_to_list (open_write b h)) [
        | None ↦ writes_begun-parts b h by.1
        | Some v ↦ ap (λ t. v ∷ t) (writes_begun-parts b h by.1)
      ]
      | false ↦ λ none.
          ap (λ t. cons_option (write_of b x) t) (writes_begun-none b h by.1 none) ∙
          elim (is_by w x) as (λ t. is_by w x ≡ t → cons_option (write_of b x) [] ≡ option_to_list (value_written b (option_and_then begun_by (cond t (Some x) None)))) [
            | true ↦ λ e. elim (write_of b x) as (λ o. cons_option o [] ≡ option_to_list o) [ None ↦ refl | Some v ↦ refl ]
            | false ↦ λ e. ap (λ o. cons_option o []) (not_written b x.bit x.side x.act by.0 e)
          ] refl
    ] refl

-- the last of some values, with perhaps one more
pub last_value-maybe : (v : Bool) (ws : List Bool) (o : Option Bool) → last_value v (ws ++ option_to_list o) ≡ unwrap_or o (last_value v ws)
last_value-maybe v ws o = grind (arith, append-nil, last_value-push)

-- a write that is open
pub open_write-push : (b : Bit) (h : List Event) (e : Event) → open_write b (h ++ e ∷ []) ≡ (if is_by (writer b) e then write_of b e else open_write b h)
open_write-push b h e = grind (arith, open_access-push)

-- what a bit holds changes when its writer has an event, to what was being written
pub held-push : (b : Bit) (h : List Event) (e : Event) → AllByDoer h → held b (h ++ e ∷ []) ≡ (if is_by (writer b) e then unwrap_or (open_write b h) (held b h) else held b h)
held-push b h e by = grind (arith, before_last-push, writes_begun-parts, last_value-maybe)

-- what it held when a side's last access began
pub held_at_begin-push : (s : Side) (b : Bit) (h : List Event) (e : Event) → held_at_begin s b (h ++ e ∷ []) ≡ (if is_by s e then held b h else held_at_begin s b h)
held_at_begin-push s b h e = grind (arith, before_last-push)

pub is_overlapped-push : (s : Side) (b : Bit) (h : List Event) (e : Event) → is_overlapped s b (h ++ e ∷ []) ≡ (if is_by s e then is_some (open_write b h) else is_overlapped s b h || is_some (write_of b e))
is_overlapped-push s b h e = grind (arith, before_last-push, after_last-at, after_last-not, filter_map-append)
