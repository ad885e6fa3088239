-- What is open, event by event: from a side's own events, after complete accesses, and while nothing overlaps.
use Rattle.std.proofs.Common.{◌≡◌, Bool, true, false, ◌||◌, Option, None, List, ◌∷◌, ◌++◌, refl, ap, sym, subst, ◌∙◌, append-nil, append_assoc, arith, []}
use Rattle.bits_core.proofs.Common.{is_some, unwrap_or, if◌then◌else◌, or_parts, false≢true, Side, Bit, Event, Shape, writer, reader, same_side, is_by, begun_by, write_of, before_last, open_access}
use Rattle.bits_core.proofs.Common.{open_write, held, is_overlapped, IsLawful}
use Rattle.bits_core.specs.Made.{Made, begin_event, end_event, events_of, subhistory}
use Rattle.bits_core.specs.Laws.{OpenFromOwn, MadeLeaveNoneOpen}
use Rattle.bits_core.proofs.Statements.{QuietIsHeld}
use Rattle.bits_core.proofs.Histories.{before_last-push, open_access-push}
use Rattle.bits_core.proofs.Changes.{same_side-same, open_write-push, is_overlapped-push}
use Rattle.bits_core.proofs.LawProofs.{lawful_by_one_more, held_changes}
use Rattle.bits_core.proofs.OwnEvents.{by_case, subhistory_changes}
use Rattle.bits_core.proofs.MadeLemmas.{end_begins_none as begun_end}

-- by one more event
grow : (Q : List Event → Type 0) → ((h : List Event) (e : Event) → Q h → Q (h ++ e ∷ [])) → (h more : List Event) → Q h → Q (h ++ more)
grow Q step h [] q = subst Q (sym (append-nil h)) q
grow Q step h (e ∷ more) q = subst Q (append_assoc h (e ∷ []) more) (grow Q step (h ++ e ∷ []) more (step h e q))

by_events : (Q : List Event → Type 0) → Q [] → ((h : List Event) (e : Event) → Q h → Q (h ++ e ∷ [])) → (h : List Event) → Q h
by_events Q none step h = grow Q step [] h none

pick : {A : Type 0} → (t v : Bool) (x y : A) → t ≡ v → (if t then x else y) ≡ (if v then x else y)
pick t v x y e = ap (λ b. if b then x else y) e

-- the open access of a side, from its own events
pub open_from_own : OpenFromOwn
open_from_own s = by_events (λ h. open_access s h ≡ open_access s (subhistory s h)) refl
    (λ h e was. by_case (is_by s e)
    (λ by.
    (open_access-push s h e ∙ pick (is_by s e) true (begun_by e) (open_access s h) by) ∙
    sym (ap (open_access s) (subhistory_changes s h e ∙ pick (is_by s e) true (subhistory s h ++ e ∷ []) (subhistory s h) by) ∙ open_access-push s (subhistory s h) e ∙ pick (is_by s e) true (begun_by e) (open_access s (subhistory s h)) by))
    (λ by.
    (open_access-push s h e ∙ pick (is_by s e) false (begun_by e) (open_access s h) by) ∙ was ∙
    sym (ap (open_access s) (subhistory_changes s h e ∙ pick (is_by s e) false (subhistory s h ++ e ∷ []) (subhistory s h) by))))

-- complete accesses
pub by_end : (s : Side) (x : Made) → is_by s (end_event s x) ≡ true
by_end s x = grind (arith, same_side-same)

none_behind : (s : Side) (before : List Event) (made : List Made) → open_access s before ≡ None → open_access s (before ++ events_of s made) ≡ None
none_behind s before [] is = ap (open_access s) (append-nil before) ∙ is
none_behind s before (x ∷ made) is =
    let begun : List Event = before ++ begin_event s x ∷ [] in
    let none : open_access s (begun ++ end_event s x ∷ []) ≡ None = grind (arith, open_access-push, pick, by_end, begun_end) in
    grind (arith, append_assoc, none_behind s (begun ++ end_event s x ∷ []) made none)

pub made_leave_none_open : MadeLeaveNoneOpen
made_leave_none_open s made = none_behind s [] made refl

-- ---- while nothing overlaps

pub not_open : {A : Type 0} → (o : Option A) → is_some o ≡ false → o ≡ None
not_open o e = grind (arith, false≢true)

reads_not : (b : Bit) (s : Side) → s ≡ reader b → same_side (writer b) s ≡ false
reads_not b s is = grind arith

pub same_true : (x y : Side) → same_side x y ≡ true → x ≡ y
same_true x y e = grind (arith, false≢true)

abbrev Quiet : Side → Bit → List Event → Type 0
Quiet s b h = is_overlapped s b h ≡ false → (open_write b h ≡ None) × (open_write b (before_last s h) ≡ None) × (held b h ≡ held b (before_last s h))

quiet : (shape : Shape) (s : Side) (b : Bit) → s ≡ reader b → (h : List Event) → IsLawful shape h → Quiet s b h
quiet shape s b is = by_events (λ h. IsLawful shape h → Quiet s b h)
    (λ lawful over. (refl, refl, refl))
    (λ h e was more over.
    let lawful : IsLawful shape h = ((lawful_by_one_more shape h e).0 more).0 in
    let w : Side = writer b in
    by_case (is_by s e)
    (λ by.
    let none : open_write b h ≡ None = not_open (open_write b h) (sym (is_overlapped-push s b h e ∙ pick (is_by s e) true (is_some (open_write b h)) (is_overlapped s b h || is_some (write_of b e)) by) ∙ over) in
    let not_w : is_by w e ≡ false = ap (same_side w) (sym (same_true s e.side by)) ∙ reads_not b s is in
    let before : before_last s (h ++ e ∷ []) ≡ h = before_last-push s h e ∙ pick (is_by s e) true h (before_last s h) by in (
      open_write-push b h e ∙ pick (is_by w e) false (write_of b e) (open_write b h) not_w ∙ none,
      ap (open_write b) before ∙ none,
      held_changes shape b h e lawful ∙ pick (is_by w e) false (unwrap_or (open_write b h) (held b h)) (held b h) not_w ∙ sym (ap (held b) before),
    ))
    (λ by.
    let parts = or_parts (is_overlapped s b h) (is_some (write_of b e)) (sym (is_overlapped-push s b h e ∙ pick (is_by s e) false (is_some (open_write b h)) (is_overlapped s b h || is_some (write_of b e)) by) ∙ over) in
    let q = was lawful parts.0 in
    let begun : write_of b e ≡ None = not_open (write_of b e) parts.1 in
    let before : before_last s (h ++ e ∷ []) ≡ before_last s h = before_last-push s h e ∙ pick (is_by s e) false h (before_last s h) by in (
      open_write-push b h e ∙ (λ i. if is_by w e then begun i else q.0 i) ∙ either (is_by w e) None,
      ap (open_write b) before ∙ q.1,
      held_changes shape b h e lawful ∙ (λ i. if is_by w e then unwrap_or (q.0 i) (held b h) else held b h) ∙ either (is_by w e) (held b h) ∙ q.2 ∙ sym (ap (held b) before),
    )))
  where
    either : {A : Type 0} → (t : Bool) (x : A) → (if t then x else x) ≡ x
    either true x = refl
    either false x = refl

pub quiet_is_held : QuietIsHeld
quiet_is_held shape h s b lawful is over = quiet shape s b is h lawful over
