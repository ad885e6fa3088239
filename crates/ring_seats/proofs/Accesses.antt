-- A complete access of an end: two steps of its seat.
use Rattle.std.proofs.Common.{arith, ◌≡◌, ℕ, Bool, true, false, Option, None, List, [], ◌∷◌, ◌++◌, ap, sym, subst, ◌∙◌}
use Rattle.ring_seats.proofs.Common.{Me, Side, Bit, Act, ReadBegin, ReadEnd, WriteBegin, WriteEnd, Access, Event, Shape, open_access, Ring, RingEnd, View, Stands, event, list_of, may_step}
use Rattle.ring_seats.proofs.Common.{answer_of}
use Rattle.bits_core.specs.declared.events.Access.TheVariants.{Read, Write}
use Rattle.bits_core.specs.Bits.{begun_access, other}
use Rattle.ring_seats.proofs.Grown.{Added, and_event}
use Rattle.ring_seats.specs.Steppers.{Grows, HasMade}
use Rattle.ring_seats.proofs.Moves.{list_of-mine, may_step-more, opened_by}

-- an end from its ring, its side and what its seat knows
abbrev pub end_at : Ring → Side → View → RingEnd
end_at ring x v = record { ring = ring; side = x; list = list_of x v; known = v.known; loads = v.loads }

-- what holds for an end of this side holds for its seat
pub of_side :
    (x : Side) (ring : Ring) (y : Side) (v : View) {e : RingEnd} → end_at ring y v ≡ e → e.side ≡ x → may_step y v ≡ true → may_step (other y) v ≡ false →
    (F : Shape → List Event → Type 0) → F e.ring.shape e.list → (may_step x v ≡ true) × (may_step (other x) v ≡ false) × F ring.shape (list_of x v)
of_side x ring y v {e} is side may may_not F has = grind arith

pub grows : (ring : Ring) (x : Side) (e : Event) (got : ℕ) (v w : View) → w ≡ and_event x e got v → Stands ring.shape x (list_of x w) w.known → Grows (end_at ring x v) (end_at ring x w) e
grows ring x e got v w is stands = grind arith

module _ (ring : Ring) (x : Side) (b : Bit) (m0 m1 m2 : Me (Unit {0}) View) where
  pub made_read : (first n : ℕ) (said v : Bool) → Added ring.shape (λ _. event x b ReadBegin) m0 first m1 → Added ring.shape (λ k. event x b (ReadEnd (answer_of m1.0.first k said))) m1 n m2
      → v ≡ answer_of first n said → HasMade (end_at ring x m0.0) (end_at ring x m2.0) (Read b) v
  made_read first n said v one two is =
      let first_is : m1.0.first ≡ first = ap (λ (u : View). u.first) one.view in
      let same : answer_of m1.0.first n said ≡ v = ap (λ (f : ℕ). answer_of f n said) first_is ∙ sym is in (
        end_at ring x m1.0,
        grows ring x (event x b ReadBegin) first m0.0 m1.0 one.view one.stands,
        subst (λ (w : Bool). Grows (end_at ring x m1.0) (end_at ring x m2.0) (event x b (ReadEnd w))) same
            (grows ring x (event x b (ReadEnd (answer_of m1.0.first n said))) n m1.0 m2.0 two.view two.stands),
      )

  pub made_write : (v : Bool) (one_new two_new : ℕ) → Added ring.shape (λ _. event x b (WriteBegin v)) m0 one_new m1 → Added ring.shape (λ _. event x b WriteEnd) m1 two_new m2
      → HasMade (end_at ring x m0.0) (end_at ring x m2.0) (Write b v) v
  made_write v one_new two_new one two = (
    end_at ring x m1.0,
    grows ring x (event x b (WriteBegin v)) one_new m0.0 m1.0 one.view one.stands,
    grows ring x (event x b WriteEnd) two_new m1.0 m2.0 two.view two.stands,
  )

-- what a step leaves unchanged
module _ (x : Side) (b : Bit) (a : Act) (got : ℕ) (v w : View) (is : w ≡ and_event x (event x b a) got v) where
  pub may_still : (y : Side) (may : Bool) → may_step y v ≡ may → may_step y w ≡ may
  may_still y may was = ap (may_step y) is ∙ may_step-more x y (event x b a) got v ∙ was

  pub list_more : list_of x w ≡ list_of x v ++ event x b a ∷ []
  list_more = ap (list_of x) is ∙ list_of-mine x (event x b a) got v

-- after an access none is open
pub none_open : (x : Side) (b : Bit) (a : Act) (got : ℕ) (v w : View) → w ≡ and_event x (event x b a) got v → begun_access b a ≡ None → (opened : Option Access) (list : List Event) → opened ≡ open_access x list → open_access x list ≡ None
    → opened ≡ open_access x (list_of x w)
none_open x b a got v w is over opened list was none = was ∙ none ∙ sym (opened_by x b a got v w is ∙ over)
