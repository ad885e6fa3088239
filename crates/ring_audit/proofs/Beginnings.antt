-- The events of a side that are a prefix of those of accesses, with one more event.
use Rattle.std.proofs.Common.{◌≡◌, Bool, Some, List, [], ◌∷◌, ◌++◌, refl, sym, ap, ◌∙◌, arith}
use Rattle.ring_audit.proofs.Common.{Side, Bit, Access, Event}
use Rattle.bits_core.specs.declared.events.Act.{Act}
use Rattle.bits_core.specs.Bits.{begun_access, begun_by}
use Rattle.bits_core.specs.Made.{Made, Read, Write, access_of, answered, begin_event, end_event, events_of, IsPrefix, opening_event}
pub use Rattle.bits_core.proofs.MadeLemmas.{begin_begins as begun_is, end_begins_none as ended_is}

-- ---- one access

pub begin_is : (s : Side) (x : Made) → begin_event s x ≡ opening_event s (access_of x)
begin_is s x = grind arith

pub answer_is : (x : Made) → (v : Bool) × (x ≡ answered (access_of x) v)
answer_is (Read b v) = (v, refl)
answer_is (Write b v) = (v, refl)

pub begun_of : (s : Side) (a : Access) → begun_by (opening_event s a) ≡ Some a
begun_of s a = grind arith

-- an access is determined by its start
pub same_access : (s : Side) (a : Access) (x : Made) → opening_event s a ≡ begin_event s x → access_of x ≡ a
same_access s a x e = let both : Some a ≡ Some (access_of x) = sym (begun_of s a) ∙ ap begun_by e ∙ begun_is s x in cc

-- the event that begins an access
event_of : (s : Side) (b : Bit) (act : Act) (a : Access) → begun_access b act ≡ Some a → record { side = s; bit = b; act = act } ≡ opening_event s a
event_of s b act a e = grind arith

pub begins_so : (s : Side) (e : Event) (a : Access) → e.side ≡ s → begun_by e ≡ Some a → e ≡ opening_event s a
begins_so s e a by begun = event_of e.side e.bit e.act a begun ∙ ap (λ t. opening_event t a) by

-- ---- one more event

-- after these accesses the program continues with one that the event begins
pub record GoesOnWith (s : Side) (made whole : List Made) (e : Event) : Type 0 where
  pub next : Made
  pub rest : List Made
  pub whole_is : whole ≡ made ++ next ∷ rest
  pub begins : e ≡ begin_event s next

pub next_begins : (s : Side) (made whole : List Made) (e : Event) → IsPrefix (events_of s made ++ e ∷ []) (events_of s whole) → GoesOnWith s made whole e
next_begins s [] [] e (rest, p) = absurd (cc)
next_begins s [] (y ∷ whole) e (rest, p) = record { next = y; rest = whole; whole_is = refl; begins = cc }
next_begins s (m ∷ made) [] e (rest, p) = absurd (cc)
next_begins s (m ∷ made) (y ∷ whole) e (rest, p) = grind (arith, next_begins s made whole e (rest, cc))

-- and that the second event ends
pub record GoesOnBy (s : Side) (made whole : List Made) (b e : Event) : Type 0 where
  pub next : Made
  pub rest : List Made
  pub whole_is : whole ≡ made ++ next ∷ rest
  pub begins : b ≡ begin_event s next
  pub ends : e ≡ end_event s next

pub next_ends : (s : Side) (made whole : List Made) (b e : Event) → IsPrefix (events_of s made ++ b ∷ e ∷ []) (events_of s whole) → GoesOnBy s made whole b e
next_ends s [] [] b e (rest, p) = absurd (cc)
next_ends s [] (y ∷ whole) b e (rest, p) = record { next = y; rest = whole; whole_is = refl; begins = cc; ends = cc }
next_ends s (m ∷ made) [] b e (rest, p) = absurd (cc)
next_ends s (m ∷ made) (y ∷ whole) b e (rest, p) = grind (arith, next_ends s made whole b e (rest, cc))
