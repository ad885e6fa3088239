use Rattle.std.proofs.Common.{arith, ◌≡◌, ℕ, true, false, List, refl, ap, sym, subst, ◌∙◌}
use Rattle.ring_seats.proofs.Common.{Allows, Bit, ReadBegin, ReadEnd, Event, other, reader, belongs, CanMake, HasMade, AreAnswered, GoesOn, Ring, RingEnd, View, KeepsFlickerRule, event}
use Rattle.bits_core.specs.declared.events.Access.TheVariants.{Read}
use Rattle.ring_seats.proofs.Grown.{Added}
use Rattle.ring_seats.specs.Words.{answer_of, word_place, agrees}
use Rattle.ring_seats.proofs.Accesses.{end_at, list_more, made_read, may_still, none_open}
use Rattle.ring_seats.proofs.Moves.{begins_read, ends_read, opened_by}
use Rattle.ring_seats.proofs.Answered.{answered_then, asked_so, quiet_step, read_step}
use Rattle.ring_seats.proofs.steppers.Stepper+Flickering.read.Goals as goal

-- what may be read for the model of an end may be read for the end itself
record MayRead (inside : RingEnd) (b : Bit) (ring : Ring) (word : ℕ) : Type 0 where
  ring_is : inside.ring ≡ ring
  word_is : word_place inside.ring.shape b ≡ word
  bit : belongs inside.ring.shape b ≡ true
  side : inside.side ≡ reader b
  can : CanMake inside (Read b)

may_read :
    (inside now : RingEnd) (b : Bit) (ring : Ring) (word : ℕ) → inside ≡ now → ring ≡ now.ring → word ≡ word_place ring.shape b →
    (belongs now.ring.shape b ≡ true) × (now.side ≡ reader b) → CanMake now (Read b) → MayRead inside b ring word
may_read inside now b ring word is ring_is word_is bit can = grind arith

pub load-first-requires-clause-rule : goal.load-first-requires-clause-rule
load-first-requires-clause-rule g c =
    let h = c.self.inside in
    let b = c.args.bit in
    let may = may_read _ _ b c.args.ring.now c.word_of-word.result c.self.view_is c.requires.ring c.word_of-word.ensures.place c.requires.bit c.requires.can in
    subst (λ (z : Ring × ℕ). Allows (KeepsFlickerRule z.0.shape) z.0.id.slots h.seat.id h.seat.me z.1 (λ n. n) (Added z.0.shape (λ _. event h.side b ReadBegin) h.seat.me)) (λ i. (may.ring_is i, may.word_is i))
    (begins_read h.ring.shape h.side b h.ring.id.slots h.seat.id h.seat.me c.self.invariant.2 c.self.invariant.3 may.bit may.side may.can.0 may.can.1)

pub load-again-requires-clause-rule : goal.load-again-requires-clause-rule
load-again-requires-clause-rule g c =
    let h = c.self.inside in
    let b = c.args.bit in
    let may = may_read _ _ b c.args.ring.now c.word_of-word.result c.self.view_is c.requires.ring c.word_of-word.ensures.place c.requires.bit c.requires.can in
    let first = c.load-first.result in
    let seat = c.load-first.new.seat in
    let view = c.load-first.ensures.told.view in
    let said = g.O.Oracle.answers c.args.oracle.now 0 in
    subst (λ (z : Ring × ℕ). Allows (KeepsFlickerRule z.0.shape) z.0.id.slots seat.id seat.me z.1 (λ n. n) (Added z.0.shape (λ n. event h.side b (ReadEnd (answer_of seat.me.0.first n said))) seat.me)) (λ i. (may.ring_is i, may.word_is i))
    (ends_read h.ring.shape h.side b h.ring.id.slots seat.id seat.me
    (may_still h.side b ReadBegin first h.seat.me.0 seat.me.0 view h.side true c.self.invariant.2)
    (may_still h.side b ReadBegin first h.seat.me.0 seat.me.0 view (other h.side) false c.self.invariant.3)
    may.bit may.side
    (opened_by h.side b ReadBegin first h.seat.me.0 seat.me.0 view)
    (subst (λ (l : List Event). GoesOn h.ring.shape h.side (Read b) l) (sym (list_more h.side b ReadBegin first h.seat.me.0 seat.me.0 view)) may.can.2)
    said)

pub invariant_of-self : goal.invariant_of-self
invariant_of-self g c =
    let h = c.self.inside in
    let is = sym c.self.view_is in
    let b = c.args.bit in
    let can = subst (λ (e : RingEnd). CanMake e (Read b)) is c.requires.can in
    let one = c.load-first in
    let two = c.load-again in
    let v1 = one.new.seat.me.0 in
    let a = ReadEnd (answer_of v1.first two.result (g.O.Oracle.answers c.args.oracle.now 0)) in (
      two.ensures.same.0 ∙ one.ensures.same.0 ∙ c.self.invariant.0,
      two.ensures.told.carried ∙ one.ensures.told.carried ∙ c.self.invariant.1,
      may_still h.side b a two.result v1 two.new.seat.me.0 two.ensures.told.view h.side true (may_still h.side b ReadBegin one.result h.seat.me.0 v1 one.ensures.told.view h.side true c.self.invariant.2),
      may_still h.side b a two.result v1 two.new.seat.me.0 two.ensures.told.view (other h.side) false (may_still h.side b ReadBegin one.result h.seat.me.0 v1 one.ensures.told.view (other h.side) false c.self.invariant.3),
      (ap (λ (u : View). u.first) two.ensures.told.view ∙ ap (λ (u : View). u.first) one.ensures.told.view, none_open h.side b a two.result v1 two.new.seat.me.0 two.ensures.told.view refl h.kept.access _ c.self.invariant.4.1 can.0),
    )

pub returns-clause-made : goal.returns-clause-made
returns-clause-made g c =
    let h = c.self.inside in
    let ring_is = subst (λ (e : RingEnd). c.args.ring.now ≡ e.ring) (sym c.self.view_is) c.requires.ring in
    let one = c.load-first in
    let two = c.load-again in
    let said = g.O.Oracle.answers c.args.oracle.now 0 in
    let added_one = subst (λ (r : Ring). Added r.shape (λ _. event h.side c.args.bit ReadBegin) h.seat.me one.result one.new.seat.me) ring_is one.ensures.told in
    let added_two = subst (λ (r : Ring). Added r.shape (λ n. event h.side c.args.bit (ReadEnd (answer_of one.new.seat.me.0.first n said))) one.new.seat.me two.result two.new.seat.me) ring_is two.ensures.told in
    subst (λ (e : RingEnd). HasMade e (end_at h.ring h.side two.new.seat.me.0) (Read c.args.bit) c.answer.result) c.self.view_is
    (made_read h.ring h.side c.args.bit h.seat.me one.new.seat.me two.new.seat.me one.result two.result said c.answer.result added_one added_two c.answer.ensures.answer)

pub returns-clause-answered : goal.returns-clause-answered
returns-clause-answered g c =
    let h = c.self.inside in
    let b = c.args.bit in
    let one = c.load-first in
    let two = c.load-again in
    let before = g.O.Oracle.answers c.args.oracle.now in
    let after = g.O.Oracle.answers c.answer.new.oracle in
    let v1 = one.new.seat.me.0 in
    let v2 = two.new.seat.me.0 in
    let first_is : v1.first ≡ one.result = ap (λ (u : View). u.first) one.ensures.told.view in
    let asked = asked_so g.O.Oracle.answers c.args.oracle.now c.answer.new.oracle (agrees v1.first two.result) (λ t. c.answer.ensures.agree (ap (λ (n : ℕ). agrees n two.result) (sym first_is) ∙ t)) (λ t. c.answer.ensures.asks (ap (λ (n : ℕ). agrees n two.result) (sym first_is) ∙ t)) in
    subst (λ (e : RingEnd). AreAnswered e (end_at h.ring h.side v2) before after) c.self.view_is
    (answered_then (end_at h.ring h.side h.seat.me.0) (end_at h.ring h.side v1) (end_at h.ring h.side v2) before before after
    (quiet_step h.ring h.side b ReadBegin one.result h.seat.me.0 v1 one.ensures.told.view refl refl before)
    (read_step h.ring h.side b two.result v1 v2 before after two.ensures.told.view asked))
