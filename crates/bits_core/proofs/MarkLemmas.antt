-- Marks, maintained event by event.
use Rattle.std.proofs.Common.{◌≡◌, ◌≢◌, ℕ, zero, suc, ◌+◌, ◌<◌, ◌≤◌, ◌||◌, not, Bool, true, false, cond, Option, Some, None, List, ◌∷◌, ◌++◌, length, get_or, take, refl, ap, sym, subst, ◌∙◌, arith, []}
use Rattle.bits_core.proofs.Common.{set, if◌then◌else◌, is_some, unwrap_or, none-some, take-length, Side, Bit, Act, ReadBegin, ReadEnd, WriteBegin, WriteEnd, Access, Read, Write, Event, Shape}
use Rattle.bits_core.proofs.Common.{open_access, open_write, held, held_at_begin, is_overlapped, IsLawful, FitsOpen, MayFollow}
use Rattle.std.proofs.lemmas.Bool.{false≢true, or_parts, and_parts, ltb-true}
use Rattle.std.proofs.lemmas.Bool.Decides.{nat_tests}
use Rattle.std.proofs.lemmas.List.{take_more, get_or-set_same, get_or-set_other, length-set}
use Rattle.bits_core.specs.declared.events.Side.TheVariants.{P}
use Rattle.bits_core.specs.declared.marks.SideMark.{SideMark}
use Rattle.bits_core.specs.declared.marks.Marks.{Marks}
use Rattle.bits_core.specs.Bits.{other, writer, reader, doer, first_value, same_bit, same_side, begun_access, begun_by, write_of, value_written}
use Rattle.bits_core.specs.Shape.{belongs}
use Rattle.bits_core.specs.Marks.{AreMarks, IsInTable, IsMark, beside, idle, side_mark, table_place, seat_of, settled, value_ended, with_mark, with_value}
use Rattle.bits_core.proofs.Changes.{AllByDoer, AllByDoer-lawful, same_bit-true, same_side-same, open_write-push, held-push, held_at_begin-push, is_overlapped-push}
use Rattle.bits_core.proofs.Histories.{open_access-push}
use Rattle.bits_core.proofs.IntervalLemmas.{same_side-true}
use Rattle.bits_core.proofs.LawfulLemmas.{IsLawful-to}
use Rattle.bits_core.proofs.LawProofs.{empty_is_lawful, lawful_by_one_more}
use Rattle.bits_core.proofs.OpenAccesses.{open_right}
use Rattle.bits_core.proofs.StepLemmas.{EachMayFollow, EachMayFollow-take}
use Rattle.bits_core.proofs.OwnOpen.{not_open as none_when}

-- ---- the table

-- it has room for each bit of a shape
pub IsInTable-belongs : (shape : Shape) (b : Bit) → belongs shape b ≡ true → IsInTable b
IsInTable-belongs shape b has = grind (arith, ltb-true, and_parts)

place-within : (b : Bit) → IsInTable b → table_place b < 4609
place-within b room = grind arith

-- two bits are at two places
places-apart : (b c : Bit) → IsInTable b → IsInTable c → same_bit b c ≡ false → table_place b ≢ table_place c
places-apart b c p q apart = grind (arith, nat_tests, false≢true)

-- a value is set, and all others are as they were
set-values : (values : List Bool) (c b : Bit) (v : Bool) → length values ≡ 4609 → IsInTable c → IsInTable b
    → get_or (set values (table_place c) v) (table_place b) false ≡ (if same_bit b c then v else get_or values (table_place b) false)
set-values values c b v size room there =
    elim (same_bit b c) as (λ t. same_bit b c ≡ t → get_or (set values (table_place c) v) (table_place b) false ≡ cond t v (get_or values (table_place b) false)) [
      | true ↦ λ same. rw (same_bit-true b c same) (get_or-set_same values (table_place c) v false (omega (arith, size, place-within c room)))
      | false ↦ λ apart. get_or-set_other values (table_place c) (table_place b) v false (places-apart b c there room apart)
    ] refl

-- the table of the first values
pub first_values-at : (none : List Bool) → length none ≡ 4609 → ((k : ℕ) → k < 4609 → get_or none k false ≡ false)
    → (b : Bit) → IsInTable b → get_or (set (set none 0 true) 256 true) (table_place b) false ≡ first_value b
first_values-at none size all b room = grind (arith, get_or-set_other, get_or-set_same, nat_tests, length-set)

pub AreMarks-empty : (values : List Bool) → length values ≡ 4609 → ((b : Bit) → IsInTable b → get_or values (table_place b) false ≡ first_value b)
    → (shape : Shape) → AreMarks shape [] (record { values = values; sides = idle ∷ idle ∷ [] })
AreMarks-empty values size first shape = grind (arith, empty_is_lawful, none-some)

-- ---- a read that no write overlaps: its bit still holds what it held when the read began

abbrev Quiet : Bit → List Event → Type 0
Quiet b h = is_overlapped (reader b) b h ≡ false → (open_write b h ≡ None) × (held_at_begin (reader b) b h ≡ held b h)

quiet-push : (b : Bit) (h : List Event) (e : Event) → AllByDoer h → Quiet b h → Quiet b (h ++ e ∷ [])
quiet-push b h e by before none = grind (arith, is_overlapped-push, open_write-push, held_at_begin-push, held-push, none_when, or_parts)

quiet-take : (shape : Shape) (b : Bit) (h : List Event) (d : Event) → EachMayFollow shape h → (n : ℕ) → n ≤ length h → Quiet b (take n h)
quiet-take shape b h d lawful zero within = λ none. (refl, refl)
quiet-take shape b h d lawful (suc n) within =
    let more : take (suc n) h ≡ take n h ++ get_or h n d ∷ [] = let e : suc n ≡ n + 1 = omega arith in ap (λ k. take k h) e ∙ take_more h n d (omega arith) in
    subst (λ t. Quiet b t) (sym more) (quiet-push b (take n h) (get_or h n d) (AllByDoer-lawful shape (take n h) (EachMayFollow-take shape h n lawful)) (quiet-take shape b h d lawful n (omega arith)))

quiet_holds : (shape : Shape) (b : Bit) (h : List Event) → IsLawful shape h → is_overlapped (reader b) b h ≡ false → held_at_begin (reader b) b h ≡ held b h
quiet_holds shape b h lawful none =
    grind (arith, take-length h, quiet-take shape b h (record { side = P; bit = b; act = ReadBegin }) (IsLawful-to shape h lawful) (length h) (omega arith), IsLawful-to shape h lawful)

-- so the marks know what an open read has to answer
pub settled-is : (shape : Shape) (h : List Event) (s : Side) (b : Bit) (marks : Marks) → AreMarks shape h marks → open_access s h ≡ Some (Read b) → IsInTable b
    → (if (side_mark s marks).overlapped then None else Some (get_or marks.values (table_place b) false)) ≡ settled s b h
settled-is shape h s b marks are reads room = grind (arith, open_right shape h s (Read b) are.lawful reads, quiet_holds shape b h are.lawful)

pub answer-is : (s : Side) (b : Bit) (h : List Event) (due : Option Bool) (asked : Bool) → due ≡ settled s b h → unwrap_or due asked ≡ (if is_overlapped s b h then asked else held_at_begin s b h)
answer-is s b h due asked is = grind arith

pub overlapped-is : (s : Side) (b : Bit) (h : List Event) (due : Option Bool) (none : Bool) → due ≡ settled s b h → is_some due ≡ not none → none ≡ is_overlapped s b h
overlapped-is s b h due none is some = grind arith

-- ---- one more event

both : (t : Bool) (v : Bool) → cond t v v ≡ v
both t v = grind arith

no_write : (o : Option Access) (s : Side) (c b : Bit) (v : Bool) → value_written b o ≡ None → cond (same_side (writer b) s) (unwrap_or (value_written b o) v) v ≡ cond (same_bit b c) v v
no_write o s c b v none = ap (λ x. cond (same_side (writer b) s) (unwrap_or x v) v) none ∙ both (same_side (writer b) s) v ∙ sym (both (same_bit b c) v)

write_ends : (s : Side) (c b : Bit) (w v : Bool) → s ≡ writer c → cond (same_side (writer b) s) (unwrap_or (cond (same_bit b c) (Some w) None) v) v ≡ cond (same_bit b c) w v
write_ends s c b w v by = grind (arith, same_bit-true, same_side-same, both)

-- what a bit holds changes when the open write of it ends
held-ends : (shape : Shape) (h : List Event) (s : Side) (c : Bit) (a : Act) (b : Bit) → IsLawful shape h → s ≡ doer c a → FitsOpen c a (open_access s h)
    → held b (h ++ record { side = s; bit = c; act = a } ∷ []) ≡ (if same_bit b c then unwrap_or (value_ended a (open_access s h)) (held b h) else held b h)
held-ends shape h s c a b lawful by fits =
    let e : Event = record { side = s; bit = c; act = a } in
    let v : Bool = held b h in
    let changes : held b (h ++ e ∷ []) ≡ (if same_side (writer b) s then unwrap_or (value_written b (open_access (writer b) h)) v else v) = held-push b h e (AllByDoer-lawful shape h (IsLawful-to shape h lawful)) in
    grind (arith, same_side-true, no_write, write_ends)

-- the event's own side
mark-own : (h : List Event) (e : Event) (mark : SideMark) → mark.opened ≡ begun_by e
    → ((b : Bit) → begun_by e ≡ Some (Read b) → mark.overlapped ≡ is_some (open_write b h)) → IsMark e.side (h ++ e ∷ []) mark
mark-own h e mark opened overlapped = grind (arith, same_side-same, open_access-push, is_overlapped-push)

-- what is recorded of an event
pub record HasRecorded (before : Marks) (e : Event) (marks : Marks) : Type 0 where
  pub seats_are : length marks.sides ≡ 2
  pub values_are : marks.values ≡ with_value before.values e.bit (value_ended e.act (side_mark e.side before).opened)
  pub own_opened : (side_mark e.side marks).opened ≡ begun_by e
  pub own_overlapped : (b : Bit) → begun_by e ≡ Some (Read b) → (side_mark e.side marks).overlapped ≡ is_some (value_written b (side_mark (writer b) before).opened)
  pub other_opened : (side_mark (other e.side) marks).opened ≡ (side_mark (other e.side) before).opened
  pub other_overlapped : (b : Bit) → (side_mark (other e.side) before).opened ≡ Some (Read b) → (side_mark (other e.side) marks).overlapped ≡ ((side_mark (other e.side) before).overlapped || is_some (write_of b e))

with_value-size : (values : List Bool) (b : Bit) (o : Option Bool) → length (with_value values b o) ≡ length values
with_value-size values b o = grind (arith, length-set)

with_value-at : (values : List Bool) (c b : Bit) (o : Option Bool) → length values ≡ 4609 → IsInTable c → IsInTable b
    → get_or (with_value values c o) (table_place b) false ≡ cond (same_bit b c) (unwrap_or o (get_or values (table_place b) false)) (get_or values (table_place b) false)
with_value-at values c b o size room there = grind (arith, both, set-values)

pub by_other : (s : Side) → same_side (other s) s ≡ false
by_other s = grind arith

module _ (shape : Shape) (h : List Event) (e : Event) (before marks : Marks) (are : AreMarks shape h before) (follows : MayFollow shape h e) (kept : HasRecorded before e marks) where
  room : IsInTable e.bit
  room = IsInTable-belongs shape e.bit follows.right_side.in_shape

  own_mark : IsMark e.side (h ++ e ∷ []) (side_mark e.side marks)
  own_mark = mark-own h e (side_mark e.side marks) kept.own_opened (λ b reads. kept.own_overlapped b reads ∙ ap (λ o. is_some (value_written b o)) (are.sides (writer b)).opened_is)

  other_mark : IsMark (other e.side) (h ++ e ∷ []) (side_mark (other e.side) marks)
  other_mark = grind (arith, open_access-push, is_overlapped-push)

  each_mark : (s t : Side) → IsMark s (h ++ e ∷ []) (side_mark s marks) → IsMark (other s) (h ++ e ∷ []) (side_mark (other s) marks) → IsMark t (h ++ e ∷ []) (side_mark t marks)
  each_mark s t own beside = grind arith

  pub AreMarks-push : AreMarks shape (h ++ e ∷ []) marks
  AreMarks-push = record {
    lawful = (lawful_by_one_more shape h e).1 (are.lawful, follows);
    size = ap length kept.values_are ∙ with_value-size before.values e.bit (value_ended e.act (side_mark e.side before).opened) ∙ are.size;
    seats = kept.seats_are;
    values = λ b there.
        let ended : Option Bool = value_ended e.act (side_mark e.side before).opened in
        let old : get_or before.values (table_place b) false ≡ held b h = are.values b there in
        ap (λ values. get_or values (table_place b) false) kept.values_are
        ∙ with_value-at before.values e.bit b ended are.size room there
        ∙ ap (λ v. cond (same_bit b e.bit) (unwrap_or ended v) v) old
        ∙ ap (λ o. cond (same_bit b e.bit) (unwrap_or (value_ended e.act o) (held b h)) (held b h)) (are.sides e.side).opened_is
        ∙ sym (held-ends shape h e.side e.bit e.act b are.lawful follows.right_side.by_doer follows.in_turn);
    sides = λ t. each_mark e.side t own_mark other_mark;
  }

-- ---- what each act changes

with_mark-own : (marks : Marks) (s : Side) (mark : SideMark) → length marks.sides ≡ 2 → side_mark s (with_mark marks s mark) ≡ mark
with_mark-own marks s mark seats = grind (arith, get_or-set_same)

with_mark-other : (marks : Marks) (s : Side) (mark : SideMark) → side_mark (other s) (with_mark marks s mark) ≡ side_mark (other s) marks
with_mark-other marks s mark = grind (arith, get_or-set_other)

or_none : (x : Bool) → x ≡ (x || false)
or_none x = grind arith

module _ (before : Marks) (s : Side) (b : Bit) (seats : length before.sides ≡ 2) where
  -- only the side's own mark changes with an act that begins no write
  alone : (a : Act) (values : List Bool) (mark : SideMark) → values ≡ with_value before.values b (value_ended a (side_mark s before).opened) → mark.opened ≡ begun_access b a
      → ((c : Bit) → begun_access b a ≡ Some (Read c) → mark.overlapped ≡ is_some (value_written c (side_mark (writer c) before).opened)) → ((c : Bit) → value_written c (begun_access b a) ≡ None)
      → HasRecorded before (record { side = s; bit = b; act = a }) (with_mark (record before { values = values }) s mark)
  alone a values mark values_are opened overlapped none =
      let middle : Marks = record before { values = values } in
      let own = with_mark-own middle s mark seats in
      let other_one = with_mark-other middle s mark in
      record {
        seats_are = length-set before.sides (seat_of s) mark ∙ seats;
        values_are = values_are;
        own_opened = ap (λ m. m.opened) own ∙ opened;
        own_overlapped = λ c reads. ap (λ m. m.overlapped) own ∙ overlapped c reads;
        other_opened = ap (λ m. m.opened) other_one;
        other_overlapped = λ c reads. grind (arith, or_none);
      }

  pub reads : (overlapped : Bool) → overlapped ≡ is_some (value_written b (side_mark (writer b) before).opened)
      → HasRecorded before (record { side = s; bit = b; act = ReadBegin }) (with_mark before s (record { opened = Some (Read b); overlapped = overlapped }))
  reads overlapped is =
      alone ReadBegin before.values (record { opened = Some (Read b); overlapped = overlapped }) refl refl
      (λ c reads. let same : b ≡ c = cc in is ∙ ap (λ x. is_some (value_written x (side_mark (writer x) before).opened)) same) (λ c. refl)

  pub answers : (v : Bool) → HasRecorded before (record { side = s; bit = b; act = ReadEnd v }) (with_mark before s idle)
  answers v = alone (ReadEnd v) before.values idle refl refl (λ c reads. absurd (none-some (Read c) reads)) (λ c. refl)

  pub writes : (v : Bool) → HasRecorded before (record { side = s; bit = b; act = WriteBegin v })
      (with_mark (with_mark before (other s) (beside (side_mark (other s) before) b)) s (record { opened = Some (Write b v); overlapped = false }))
  writes v =
      let mark : SideMark = record { opened = Some (Write b v); overlapped = false } in
      let reader_mark : SideMark = beside (side_mark (other s) before) b in
      let middle : Marks = with_mark before (other s) reader_mark in
      let size : length middle.sides ≡ 2 = length-set before.sides (seat_of (other s)) reader_mark ∙ seats in
      let own = with_mark-own middle s mark size in
      let other_one : side_mark (other s) (with_mark middle s mark) ≡ reader_mark = with_mark-other middle s mark ∙ with_mark-own before (other s) reader_mark seats in
      grind (arith, length-set, reads)

  pub wrote : HasRecorded before (record { side = s; bit = b; act = WriteEnd })
      (with_mark (record before { values = with_value before.values b (value_ended WriteEnd (side_mark s before).opened) }) s idle)
  wrote =
      alone WriteEnd (with_value before.values b (value_ended WriteEnd (side_mark s before).opened)) idle refl refl (λ c reads. absurd (none-some (Read c) reads)) (λ c. refl)

pub recorded : (shape : Shape) (h : List Event) (e : Event) (before marks made : Marks) (a : Act) → AreMarks shape h before → MayFollow shape h e
    → e.act ≡ a → marks ≡ made → HasRecorded before (record { side = e.side; bit = e.bit; act = a }) made → AreMarks shape (h ++ e ∷ []) marks
recorded shape h e before marks made a are follows act same kept =
    let event : record { side = e.side; bit = e.bit; act = a } ≡ e = ap (λ (x : Act). record { side = e.side; bit = e.bit; act = x }) (sym act) in
    AreMarks-push shape h e before marks are follows (subst (λ x. HasRecorded before e x) (sym same) (subst (λ x. HasRecorded before x made) event kept))
