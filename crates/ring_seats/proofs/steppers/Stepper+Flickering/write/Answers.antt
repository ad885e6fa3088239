use Rattle.std.proofs.Common.{◌≡◌, ℕ, true, false, List, refl, ap, sym, subst, ◌∙◌}
use Rattle.ring_seats.proofs.Common.{Allows, WriteBegin, WriteEnd, Event, other, writer, belongs, CanMake, HasMade, AreAnswered, GoesOn, Ring, RingEnd, View, KeepsFlickerRule, event, word_place}
use Rattle.bits_core.specs.declared.events.Access.TheVariants.{Write}
use Rattle.ring_seats.proofs.Grown.{Added}
use Rattle.ring_seats.proofs.Accesses.{end_at, list_more, made_write, may_still, none_open}
use Rattle.ring_seats.proofs.Moves.{begins_write, ends_write, opened_by}
use Rattle.ring_seats.proofs.Answered.{answered_then, quiet_step}
use Rattle.ring_seats.proofs.steppers.Stepper+Flickering.write.Goals as goal

pub store-requires-clause-rule : goal.store-requires-clause-rule
store-requires-clause-rule c =
    let h = c.self.inside in
    let ring_is = subst (λ (e : RingEnd). c.args.ring.now ≡ e.ring) (sym c.self.view_is) c.requires.ring in
    let is = sym c.self.view_is in
    let b = c.args.bit in
    let v = c.args.value in
    let can = subst (λ (e : RingEnd). CanMake e (Write b v)) is c.requires.can in
    let word : word_place h.ring.shape b ≡ c.word_of-word.result = ap (λ (r : Ring). word_place r.shape b) (sym ring_is) ∙ sym c.word_of-word.ensures.place in
    subst (λ (z : Ring × ℕ). Allows (KeepsFlickerRule z.0.shape) z.0.id.slots h.seat.id h.seat.me z.1 (λ _. 2) (λ _. Added z.0.shape (λ _. event h.side b (WriteBegin v)) h.seat.me 2)) (λ i. (sym ring_is i, word i))
    (begins_write h.ring.shape h.side b h.ring.id.slots h.seat.id h.seat.me c.self.invariant.2 c.self.invariant.3
    (subst (λ (e : RingEnd). belongs e.ring.shape b ≡ true) is c.requires.bit.0)
    (subst (λ (e : RingEnd). e.side ≡ writer b) is c.requires.bit.1)
    can.0 v can.1)

pub store-requires-2-clause-rule : goal.store-requires-2-clause-rule
store-requires-2-clause-rule c =
    let h = c.self.inside in
    let ring_is = subst (λ (e : RingEnd). c.args.ring.now ≡ e.ring) (sym c.self.view_is) c.requires.ring in
    let is = sym c.self.view_is in
    let b = c.args.bit in
    let v = c.args.value in
    let shape = h.ring.shape in
    let can = subst (λ (e : RingEnd). CanMake e (Write b v)) is c.requires.can in
    let seat = c.store.new.seat in
    let view = c.store.ensures.told.view in
    let new = c.word_of-new.result in
    let word : word_place h.ring.shape b ≡ c.word_of-word.result = ap (λ (r : Ring). word_place r.shape b) (sym ring_is) ∙ sym c.word_of-word.ensures.place in
    subst (λ (z : Ring × ℕ). Allows (KeepsFlickerRule z.0.shape) z.0.id.slots seat.id seat.me z.1 (λ _. new) (λ _. Added z.0.shape (λ _. event h.side b WriteEnd) seat.me new)) (λ i. (sym ring_is i, word i))
    (subst (λ (n : ℕ). Allows (KeepsFlickerRule shape) h.ring.id.slots seat.id seat.me (word_place shape b) (λ _. n) (λ _. Added shape (λ _. event h.side b WriteEnd) seat.me n)) (sym c.word_of-new.ensures)
    (ends_write shape h.side b h.ring.id.slots seat.id seat.me
    (may_still h.side b (WriteBegin v) 2 h.seat.me.0 seat.me.0 view h.side true c.self.invariant.2)
    (may_still h.side b (WriteBegin v) 2 h.seat.me.0 seat.me.0 view (other h.side) false c.self.invariant.3)
    (subst (λ (e : RingEnd). belongs e.ring.shape b ≡ true) is c.requires.bit.0)
    (subst (λ (e : RingEnd). e.side ≡ writer b) is c.requires.bit.1)
    v
    (opened_by h.side b (WriteBegin v) 2 h.seat.me.0 seat.me.0 view)
    (subst (λ (l : List Event). GoesOn shape h.side (Write b v) l) (sym (list_more h.side b (WriteBegin v) 2 h.seat.me.0 seat.me.0 view)) can.2)))

pub invariant_of-self : goal.invariant_of-self
invariant_of-self c =
    let h = c.self.inside in
    let is = sym c.self.view_is in
    let b = c.args.bit in
    let v = c.args.value in
    let can = subst (λ (e : RingEnd). CanMake e (Write b v)) is c.requires.can in
    let one = c.store in
    let two = c.store-2 in
    let new = c.word_of-new.result in
    let v1 = one.new.seat.me.0 in (
      two.ensures.same.0 ∙ one.ensures.same.0 ∙ c.self.invariant.0,
      two.ensures.told.carried ∙ one.ensures.told.carried ∙ c.self.invariant.1,
      may_still h.side b WriteEnd new v1 two.new.seat.me.0 two.ensures.told.view h.side true (may_still h.side b (WriteBegin v) 2 h.seat.me.0 v1 one.ensures.told.view h.side true c.self.invariant.2),
      may_still h.side b WriteEnd new v1 two.new.seat.me.0 two.ensures.told.view (other h.side) false (may_still h.side b (WriteBegin v) 2 h.seat.me.0 v1 one.ensures.told.view (other h.side) false c.self.invariant.3),
      (ap (λ (u : View). u.first) two.ensures.told.view ∙ ap (λ (u : View). u.first) one.ensures.told.view ∙ c.self.invariant.4.0, none_open h.side b WriteEnd new v1 two.new.seat.me.0 two.ensures.told.view refl h.kept.access _ c.self.invariant.4.1 can.0),
    )

pub returns-clause-made : goal.returns-clause-made
returns-clause-made c =
    let h = c.self.inside in
    let ring_is = subst (λ (e : RingEnd). c.args.ring.now ≡ e.ring) (sym c.self.view_is) c.requires.ring in
    let one = c.store in
    let two = c.store-2 in
    let added_one = subst (λ (r : Ring). Added r.shape (λ _. event h.side c.args.bit (WriteBegin c.args.value)) h.seat.me 2 one.new.seat.me) ring_is one.ensures.told in
    let added_two = subst (λ (r : Ring). Added r.shape (λ _. event h.side c.args.bit WriteEnd) one.new.seat.me c.word_of-new.result two.new.seat.me) ring_is two.ensures.told in
    subst (λ (e : RingEnd). HasMade e (end_at h.ring h.side two.new.seat.me.0) (Write c.args.bit c.args.value) c.args.value) c.self.view_is
    (made_write h.ring h.side c.args.bit h.seat.me one.new.seat.me two.new.seat.me c.args.value 2 c.word_of-new.result added_one added_two)

pub returns-clause-quiet : goal.returns-clause-quiet
returns-clause-quiet c said =
    let h = c.self.inside in
    let b = c.args.bit in
    let one = c.store in
    let two = c.store-2 in
    let v1 = one.new.seat.me.0 in
    let v2 = two.new.seat.me.0 in
    subst (λ (e : RingEnd). AreAnswered e (end_at h.ring h.side v2) said said) c.self.view_is
    (answered_then (end_at h.ring h.side h.seat.me.0) (end_at h.ring h.side v1) (end_at h.ring h.side v2) said said said
    (quiet_step h.ring h.side b (WriteBegin c.args.value) 2 h.seat.me.0 v1 one.ensures.told.view refl refl said)
    (quiet_step h.ring h.side b WriteEnd c.word_of-new.result v1 v2 two.ensures.told.view refl refl said))
