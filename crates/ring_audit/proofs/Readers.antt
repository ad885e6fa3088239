-- A reader of one side has read the events of accesses that were made, and the start of the one that is open: one more event.
use Rattle.std.proofs.Common.{◌≡◌, suc, ◌*◌, ◌≤◌, Bool, Option, Some, None, List, [], ◌∷◌, ◌++◌, length, sym, ap, subst, ◌∙◌, arith, append_assoc, append-nil, length-append}
use Rattle.ring_audit.proofs.Common.{Side, Access, Event, begun_by, Made, answered, end_event, events_of, IsPrefix, opening_event, events_of-append, length-events}
use Rattle.ring_audit.specs.Sides.{open_events, EndsSo}
use Rattle.ring_core.proofs.Machines.GoingOn.{access_back}
use Rattle.ring_audit.proofs.Beginnings.{begin_is, answer_is, GoesOnWith, next_begins, GoesOnBy, next_ends}

-- ---- what was read

-- with no access open
pub at_rest : (s : Side) (es : List Event) (made : List Made) (o : Option Access) → es ≡ events_of s made ++ open_events s o → o ≡ None → es ≡ events_of s made
at_rest s es made o is none = is ∙ ap (λ z. events_of s made ++ open_events s z) none ∙ append-nil (events_of s made)

-- with one open, and one more event
at_work :
    (s : Side) (es : List Event) (made : List Made) (o : Option Access) (a : Access) (e : Event) → es ≡ events_of s made ++ open_events s o → o ≡ Some a →
    es ++ e ∷ [] ≡ events_of s made ++ opening_event s a ∷ e ∷ []
at_work s es made o a e is some = grind (arith, append_assoc)

-- two for each access that was made, and one for the open one
pub open-short : (s : Side) (made : List Made) (o : Option Access) → length (events_of s made ++ open_events s o) ≤ suc (2 * length made)
open-short s made None = omega (arith, length-append (events_of s made) [], length-events s made)
open-short s made (Some a) = omega (arith, length-append (events_of s made) (opening_event s a ∷ []), length-events s made)

pub open-long : (s : Side) (made : List Made) (o : Option Access) → 2 * length made ≤ length (events_of s made ++ open_events s o)
open-long s made None = omega (arith, length-append (events_of s made) [], length-events s made)
open-long s made (Some a) = omega (arith, length-append (events_of s made) (opening_event s a ∷ []), length-events s made)

-- ---- when it continues

-- with a start
pub opened :
    (s : Side) (es : List Event) (made : List Made) (o : Option Access) (a : Access) → es ≡ events_of s made ++ open_events s o → o ≡ None →
    es ++ opening_event s a ∷ [] ≡ events_of s made ++ open_events s (Some a)
opened s es made o a is none = ap (λ l. l ++ opening_event s a ∷ []) (at_rest s es made o is none)

-- with an end
pub ended :
    (s : Side) (es : List Event) (made : List Made) (o : Option Access) (a : Access) (v : Bool) → es ≡ events_of s made ++ open_events s o → o ≡ Some a →
    es ++ end_event s (answered a v) ∷ [] ≡ events_of s (made ++ answered a v ∷ []) ++ open_events s None
ended s es made o a v is some =
    at_work s es made o a (end_event s (answered a v)) is some
    ∙ ap (λ b. events_of s made ++ b ∷ end_event s (answered a v) ∷ []) (sym (begin_is s (answered a v) ∙ ap (opening_event s) (access_back a v)))
    ∙ sym (events_of-append s made (answered a v ∷ []))
    ∙ sym (append-nil (events_of s (made ++ answered a v ∷ [])))

-- a program whose events begin like this continues with an access that the event begins
pub rest_on :
    (s : Side) (es : List Event) (made whole : List Made) (o : Option Access) (e : Event) → es ≡ events_of s made ++ open_events s o → o ≡ None →
    IsPrefix (es ++ e ∷ []) (events_of s whole) → GoesOnWith s made whole e
rest_on s es made whole o e is none begins = next_begins s made whole e (subst (λ l. IsPrefix (l ++ e ∷ []) (events_of s whole)) (at_rest s es made o is none) begins)

-- or with the open one, which it ends
pub work_on :
    (s : Side) (es : List Event) (made whole : List Made) (o : Option Access) (a : Access) (e : Event) → es ≡ events_of s made ++ open_events s o → o ≡ Some a →
    IsPrefix (es ++ e ∷ []) (events_of s whole) → GoesOnBy s made whole (opening_event s a) e
work_on s es made whole o a e is some begins = grind (arith, next_ends, at_work)

-- ---- when it stops

-- the start of an access while one is open
pub begin_in_access :
    (s : Side) (es : List Event) (made whole : List Made) (o : Option Access) (a : Access) (e : Event) (b : Access) → es ≡ events_of s made ++ open_events s o → o ≡ Some a →
    begun_by e ≡ Some b → IsPrefix (es ++ e ∷ []) (events_of s whole) → ⊥
begin_in_access s es made whole o a e b is some begun begins = grind (arith, work_on s es made whole o a e is some begins)

-- an end while none is open
pub end_at_rest :
    (s : Side) (es : List Event) (made whole : List Made) (o : Option Access) (e : Event) → es ≡ events_of s made ++ open_events s o → o ≡ None → begun_by e ≡ None →
    IsPrefix (es ++ e ∷ []) (events_of s whole) → ⊥
end_at_rest s es made whole o e is none no_begin begins = grind (arith, rest_on s es made whole o e is none begins)

-- an event that does not end the access that is open
pub wrong_end :
    (s : Side) (es : List Event) (made whole : List Made) (o : Option Access) (a : Access) (e : Event) → es ≡ events_of s made ++ open_events s o → o ≡ Some a → e.side ≡ s →
    ((v : Bool) → EndsSo a e v → ⊥) → IsPrefix (es ++ e ∷ []) (events_of s whole) → ⊥
wrong_end s es made whole o a e is some by no_end begins =
    let on = work_on s es made whole o a e is some begins in
    let (v, next_so) = answer_is on.next in
    grind arith

-- the open access, if it ends with an answer, is the next of the calls
pub answered_next :
    (s : Side) (es : List Event) (made whole : List Made) (o : Option Access) (a : Access) (v : Bool) → es ≡ events_of s made ++ open_events s o → o ≡ Some a →
    IsPrefix (es ++ end_event s (answered a v) ∷ []) (events_of s whole) → (rest : List Made) × (whole ≡ made ++ answered a v ∷ rest)
answered_next s es made whole o a v is some begins =
    grind (arith, work_on s es made whole o a (end_event s (answered a v)) is some begins, begin_is s (answered a v))

pub same_open : (o : Option Access) (a b : Access) → o ≡ Some a → o ≡ Some b → a ≡ b
same_open o a b e f = let both : Some a ≡ Some b = sym e ∙ f in cc
