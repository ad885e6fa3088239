use Rattle.std.proofs.Common.{arith, ℕ, true, false, Some, [], ◌∷◌, ◌++◌, ap, ◌∙◌, sym, subst, refl}
use Rattle.ring_seats.proofs.Common.{Allows, Access, ReadBegin, WriteBegin, other, IsOpenRight, View, RingEnd, AreAnswered}
use Rattle.ring_seats.specs.Programs.{Follows, begin_of}
use Rattle.ring_seats.specs.Rule.{IsIdle, KeepsFlickerRule, event}
use Rattle.ring_seats.proofs.Grown.{Added}
use Rattle.ring_seats.proofs.Moves.{begins_read, begins_write, opened_by}
use Rattle.ring_seats.proofs.Answered.{quiet_step}
use Rattle.ring_seats.proofs.Accesses.{end_at, may_still}
use Rattle.ring_seats.proofs.steppers.Stepper+Flickering.begin.Goals as goal

pub load-self-inside-requires-clause-rule : goal.load-self-inside-requires-clause-rule
load-self-inside-requires-clause-rule c =
    let h = c.self.inside in
    let is = sym c.self.view_is in
    let right = subst (λ (z : RingEnd × Access). IsOpenRight z.0.ring.shape z.0.side z.1) (λ i. (is i, c.in-Read.is i)) c.requires.right in
    subst (λ (n : ℕ). Allows (KeepsFlickerRule h.ring.shape) h.ring.id.slots h.seat.id h.seat.me n (λ n. n) (Added h.ring.shape (λ _. event h.side c.in-Read.bit ReadBegin) h.seat.me)) (sym c.word_of-word.ensures.place)
    (begins_read h.ring.shape h.side c.in-Read.bit h.ring.id.slots h.seat.id h.seat.me c.self.invariant.2 c.self.invariant.3 right.0 right.1 (subst (λ (e : RingEnd). IsIdle e.side e.list) is c.requires.idle)
    (subst (λ (z : RingEnd × Access). Follows z.0.ring.shape z.0.side (z.0.list ++ begin_of z.0.side z.1 ∷ [])) (λ i. (is i, c.in-Read.is i)) c.requires.program))

pub store-requires-clause-rule : goal.store-requires-clause-rule
store-requires-clause-rule c =
    let h = c.self.inside in
    let is = sym c.self.view_is in
    let right = subst (λ (z : RingEnd × Access). IsOpenRight z.0.ring.shape z.0.side z.1) (λ i. (is i, c.in-Write.is i)) c.requires.right in
    subst (λ (n : ℕ). Allows (KeepsFlickerRule h.ring.shape) h.ring.id.slots h.seat.id h.seat.me n (λ _. 2) (λ _. Added h.ring.shape (λ _. event h.side c.in-Write.bit (WriteBegin c.in-Write.value)) h.seat.me 2)) (sym c.word_of-word-in-Write.ensures.place)
    (begins_write h.ring.shape h.side c.in-Write.bit h.ring.id.slots h.seat.id h.seat.me c.self.invariant.2 c.self.invariant.3 right.0 right.1 (subst (λ (e : RingEnd). IsIdle e.side e.list) is c.requires.idle) c.in-Write.value
    (subst (λ (z : RingEnd × Access). Follows z.0.ring.shape z.0.side (z.0.list ++ begin_of z.0.side z.1 ∷ [])) (λ i. (is i, c.in-Write.is i)) c.requires.program))

pub returns-in-Read-clause-quiet : goal.returns-in-Read-clause-quiet
returns-in-Read-clause-quiet c said =
    let h = c.self.inside in
    let l = c.load-self-inside in
    subst (λ (e : RingEnd). AreAnswered e (end_at h.ring h.side l.new.seat.me.0) said said) c.self.view_is
    (quiet_step h.ring h.side c.in-Read.bit ReadBegin l.result h.seat.me.0 l.new.seat.me.0 l.ensures.told.view refl refl said)

pub returns-in-Write-clause-quiet : goal.returns-in-Write-clause-quiet
returns-in-Write-clause-quiet c said =
    let h = c.self.inside in
    let l = c.store in
    subst (λ (e : RingEnd). AreAnswered e (end_at h.ring h.side l.new.seat.me.0) said said) c.self.view_is
    (quiet_step h.ring h.side c.in-Write.bit (WriteBegin c.in-Write.value) 2 h.seat.me.0 l.new.seat.me.0 l.ensures.told.view refl refl said)

pub invariant_of-self : goal.invariant_of-self
invariant_of-self c =
    let h = c.self.inside in
    let l = c.load-self-inside in
    let view = l.ensures.told.view in
    let v1 = l.new.seat.me.0 in (
      l.ensures.same.0 ∙ c.self.invariant.0,
      l.ensures.told.carried ∙ c.self.invariant.1,
      may_still h.side c.in-Read.bit ReadBegin l.result h.seat.me.0 v1 view h.side true c.self.invariant.2,
      may_still h.side c.in-Read.bit ReadBegin l.result h.seat.me.0 v1 view (other h.side) false c.self.invariant.3,
      (ap (λ (u : View). u.first) view, ap Some c.in-Read.is ∙ sym (opened_by h.side c.in-Read.bit ReadBegin l.result h.seat.me.0 v1 view)),
    )

pub invariant_of-self-in-Write : goal.invariant_of-self-in-Write
invariant_of-self-in-Write c =
    let h = c.self.inside in
    let l = c.store in
    let view = l.ensures.told.view in
    let a = WriteBegin c.in-Write.value in
    let v1 = l.new.seat.me.0 in (
      l.ensures.same.0 ∙ c.self.invariant.0,
      l.ensures.told.carried ∙ c.self.invariant.1,
      may_still h.side c.in-Write.bit a 2 h.seat.me.0 v1 view h.side true c.self.invariant.2,
      may_still h.side c.in-Write.bit a 2 h.seat.me.0 v1 view (other h.side) false c.self.invariant.3,
      (ap (λ (u : View). u.first) view ∙ c.self.invariant.4.0, ap Some c.in-Write.is ∙ sym (opened_by h.side c.in-Write.bit a 2 h.seat.me.0 v1 view)),
    )

pub returns-in-Read-clause-grows : goal.returns-in-Read-clause-grows
returns-in-Read-clause-grows c = grind arith

pub returns-in-Write-clause-grows : goal.returns-in-Write-clause-grows
returns-in-Write-clause-grows c = grind arith
