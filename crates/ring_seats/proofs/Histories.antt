-- What histories of bits say about a side and a bit's word, event by event.
use Rattle.std.proofs.Common.{arith, rules, ◌≡◌, ◌⊎◌, ℕ, Bool, true, false, Option, Some, None, List, [], ◌∷◌, ◌++◌, ap, ◌∙◌}
use Rattle.ring_seats.proofs.Common.{unwrap_or, if◌then◌else◌, Side, Bit, Act, ReadBegin, ReadEnd, WriteBegin, WriteEnd, Access, Event, Shape, IsLawful, subhistory, event}
use Rattle.bits_core.specs.declared.events.Access.TheVariants.{Write}
use Rattle.bits_core.specs.Bits.{other, writer, reader, same_side, same_bit, is_by, begun_by, write_of, value_written}
use Rattle.bits_core.specs.History.{before_last, open_access, open_write, held}
use Rattle.bits_core.specs.Steps.{MayFollow, IsAnswer}
use Rattle.ring_seats.specs.Words.{value_word, word_shown, shown, answer_of}
use Rattle.bits_core.proofs.LawLemmas.{held_changes, open_changes, open_write_changes, quiet_is_held, subhistory_changes}
pub use Rattle.bits_core.proofs.Histories.{before_last-not as before_last-theirs}
pub use Rattle.bits_core.proofs.IntervalLemmas.{same_bit-same}
pub use Rattle.bits_core.proofs.OwnEvents.{by_case}
pub use Rattle.bits_core.proofs.OwnOpen.{same_true as same_side-true}
pub use Rattle.bits_core.proofs.Changes.{same_side-same}
pub use Rattle.bits_core.proofs.MarkLemmas.{by_other as same_side-other}

-- ---- sides

pub either_side : (x y : Side) → (y ≡ x) ⊎ (y ≡ other x)
either_side x y = grind arith

-- ---- what one event changes

pub own-mine : (x : Side) (h : List Event) (e : Event) → is_by x e ≡ true → subhistory x (h ++ e ∷ []) ≡ subhistory x h ++ e ∷ []
own-mine x h e by = subhistory_changes x h e ∙ ap (λ t. if t then subhistory x h ++ e ∷ [] else subhistory x h) by

pub own-theirs : (x : Side) (h : List Event) (e : Event) → is_by x e ≡ false → subhistory x (h ++ e ∷ []) ≡ subhistory x h
own-theirs x h e by = subhistory_changes x h e ∙ ap (λ t. if t then subhistory x h ++ e ∷ [] else subhistory x h) by

pub open-mine : (x : Side) (h : List Event) (e : Event) → is_by x e ≡ true → open_access x (h ++ e ∷ []) ≡ begun_by e
open-mine x h e by = open_changes x h e ∙ ap (λ t. if t then begun_by e else open_access x h) by

-- the word of a bit after one more event
shown-more : (shape : Shape) (b : Bit) (h : List Event) (e : Event) → IsLawful shape h →
    shown b (h ++ e ∷ []) ≡ (if is_by (writer b) e then word_shown (write_of b e) (unwrap_or (open_write b h) (held b h)) else shown b h)
shown-more shape b h e lawful = grind (arith, held_changes, open_write_changes)

shown-theirs : (shape : Shape) (b : Bit) (h : List Event) (e : Event) → IsLawful shape h → is_by (writer b) e ≡ false → shown b (h ++ e ∷ []) ≡ shown b h
shown-theirs shape b h e lawful by = shown-more shape b h e lawful ∙ ap (λ t. if t then word_shown (write_of b e) (unwrap_or (open_write b h) (held b h)) else shown b h) by

-- if no write of the bit is open, and none begins
calm : (shape : Shape) (b : Bit) (h : List Event) (e : Event) → IsLawful shape h → open_write b h ≡ None → write_of b e ≡ None → shown b (h ++ e ∷ []) ≡ shown b h
calm shape b h e lawful none not_begun = grind (arith, by_case, shown-more, shown-theirs)

-- the open write of a bit, by the open access of its writer
open_write-of : (x : Side) (b : Bit) (h : List Event) (o : Option Access) → same_side (writer b) x ≡ true → open_access x h ≡ o → open_write b h ≡ value_written b o
open_write-of x b h o by at = ap (λ s. value_written b (open_access s h)) (same_side-true (writer b) x by) ∙ ap (value_written b) at

module _ (shape : Shape) (x : Side) (c : Bit) (h : List Event) (lawful : IsLawful shape h) where
  pub shown-read_begin : MayFollow shape h (event x c ReadBegin) → (b : Bit) → shown b (h ++ event x c ReadBegin ∷ []) ≡ shown b h
  shown-read_begin may b = grind (arith, by_case, calm, open_write-of, shown-theirs)

  pub shown-read_end : (v : Bool) → MayFollow shape h (event x c (ReadEnd v)) → (b : Bit) → shown b (h ++ event x c (ReadEnd v) ∷ []) ≡ shown b h
  shown-read_end v may b = grind (arith, by_case, calm, open_write-of, shown-theirs)

  -- a bit other than the event's
  pub shown-apart : (a : Act) → MayFollow shape h (event x c a) → (b : Bit) → same_bit b c ≡ false → shown b (h ++ event x c a ∷ []) ≡ shown b h
  shown-apart a h1 b h2 = grind (arith, by_case, calm, open_write-of, shown-read_begin, shown-read_end, shown-theirs)

  pub shown-write_begin : (v : Bool) → x ≡ writer c → shown c (h ++ event x c (WriteBegin v) ∷ []) ≡ 2
  shown-write_begin v is = grind (arith, same_bit-same, same_side-same, shown-more)

  pub shown-write_end : (v : Bool) → x ≡ writer c → open_access x h ≡ Some (Write c v) → shown c (h ++ event x c WriteEnd ∷ []) ≡ value_word v
  shown-write_end v is at = grind (arith, open_write-of, same_bit-same, same_side-same, shown-more)

-- ---- the two loads of a read

-- the answer made from two loads is permitted
pub permitted : (shape : Shape) (x : Side) (b : Bit) (h : List Event) (first found : ℕ) (said : Bool) → IsLawful shape h → x ≡ reader b →
    first ≡ shown b (before_last x h) → found ≡ shown b h → IsAnswer h x b (answer_of first found said)
permitted shape x b h first found said lawful is begin now = search (rules, by_case, quiet_is_held)
