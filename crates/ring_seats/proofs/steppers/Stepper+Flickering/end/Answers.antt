use Rattle.std.proofs.Common.{arith, ◌≡◌, ℕ, true, false, Some, ap, ◌∙◌, sym, subst, refl}
use Rattle.ring_seats.proofs.Common.{Allows, Access, ReadEnd, WriteEnd, other, open_access, IsOpenRight, View, GoesOn, RingEnd, KeepsFlickerRule, event, AreAnswered, answer_of}
use Rattle.ring_seats.proofs.Grown.{Added}
use Rattle.ring_seats.proofs.Moves.{ends_read, ends_write, opened_by}
use Rattle.ring_seats.proofs.Answered.{asked_so, quiet_step, read_step}
use Rattle.ring_seats.proofs.Accesses.{end_at, may_still}
use Rattle.ring_seats.proofs.steppers.Stepper+Flickering.end.Goals as goal

pub load-found-requires-clause-rule : goal.load-found-requires-clause-rule
load-found-requires-clause-rule g c =
    let h = c.self.inside in
    let is = sym c.self.view_is in
    let right = subst (λ (z : RingEnd × Access). IsOpenRight z.0.ring.shape z.0.side z.1) (λ i. (is i, c.in-Read.is i)) c.requires.right in
    subst (λ (n : ℕ). Allows (KeepsFlickerRule h.ring.shape) h.ring.id.slots h.seat.id h.seat.me n (λ n. n) (Added h.ring.shape (λ n. event h.side c.in-Read.bit (ReadEnd (answer_of h.seat.me.0.first n (g.O.Oracle.answers c.args.oracle.now 0)))) h.seat.me)) (sym c.word_of-word.ensures.place)
    (ends_read h.ring.shape h.side c.in-Read.bit h.ring.id.slots h.seat.id h.seat.me c.self.invariant.2 c.self.invariant.3 right.0 right.1
    (subst (λ (z : RingEnd × Access). open_access z.0.side z.0.list ≡ Some z.1) (λ i. (is i, c.in-Read.is i)) c.requires.at)
    (subst (λ (z : RingEnd × Access). GoesOn z.0.ring.shape z.0.side z.1 z.0.list) (λ i. (is i, c.in-Read.is i)) c.requires.program)
    (g.O.Oracle.answers c.args.oracle.now 0))

pub store-requires-clause-rule : goal.store-requires-clause-rule
store-requires-clause-rule g c =
    let h = c.self.inside in
    let is = sym c.self.view_is in
    let b = c.in-Write.bit in
    let shape = h.ring.shape in
    let right = subst (λ (z : RingEnd × Access). IsOpenRight z.0.ring.shape z.0.side z.1) (λ i. (is i, c.in-Write.is i)) c.requires.right in
    subst (λ (z : ℕ × ℕ). Allows (KeepsFlickerRule shape) h.ring.id.slots h.seat.id h.seat.me z.0 (λ _. z.1) (λ _. Added shape (λ _. event h.side b WriteEnd) h.seat.me z.1)) (λ i. (sym c.word_of-word-in-Write.ensures.place i, sym c.word_of-new.ensures i))
    (ends_write shape h.side b h.ring.id.slots h.seat.id h.seat.me c.self.invariant.2 c.self.invariant.3 right.0 right.1 c.in-Write.value
    (subst (λ (z : RingEnd × Access). open_access z.0.side z.0.list ≡ Some z.1) (λ i. (is i, c.in-Write.is i)) c.requires.at)
    (subst (λ (z : RingEnd × Access). GoesOn z.0.ring.shape z.0.side z.1 z.0.list) (λ i. (is i, c.in-Write.is i)) c.requires.program))

pub invariant_of-self-in-Write : goal.invariant_of-self-in-Write
invariant_of-self-in-Write g c =
    let h = c.self.inside in
    let l = c.store in
    let view = l.ensures.told.view in
    let new = c.word_of-new.result in
    let v1 = l.new.seat.me.0 in (
      l.ensures.same.0 ∙ c.self.invariant.0,
      l.ensures.told.carried ∙ c.self.invariant.1,
      may_still h.side c.in-Write.bit WriteEnd new h.seat.me.0 v1 view h.side true c.self.invariant.2,
      may_still h.side c.in-Write.bit WriteEnd new h.seat.me.0 v1 view (other h.side) false c.self.invariant.3,
      (ap (λ (u : View). u.first) view ∙ c.self.invariant.4.0, sym (opened_by h.side c.in-Write.bit WriteEnd new h.seat.me.0 v1 view)),
    )

pub returns-in-Read-clause-answered : goal.returns-in-Read-clause-answered
returns-in-Read-clause-answered g c = grind (arith, asked_so, end_at, read_step)

pub returns-in-Write-clause-answered : goal.returns-in-Write-clause-answered
returns-in-Write-clause-answered g c =
    let h = c.self.inside in
    let l = c.store in
    subst (λ (e : RingEnd). AreAnswered e (end_at h.ring h.side l.new.seat.me.0) (g.O.Oracle.answers c.args.oracle.now) (g.O.Oracle.answers c.args.oracle.now)) c.self.view_is
    (quiet_step h.ring h.side c.in-Write.bit WriteEnd c.word_of-new.result h.seat.me.0 l.new.seat.me.0 l.ensures.told.view refl refl (g.O.Oracle.answers c.args.oracle.now))

pub invariant_of-self : goal.invariant_of-self
invariant_of-self g c =
    let h = c.self.inside in
    let l = c.load-found in
    let view = l.ensures.told.view in
    let a = ReadEnd (answer_of h.seat.me.0.first l.result (g.O.Oracle.answers c.args.oracle.now 0)) in
    let v1 = l.new.seat.me.0 in (
      l.ensures.same.0 ∙ c.self.invariant.0,
      l.ensures.told.carried ∙ c.self.invariant.1,
      may_still h.side c.in-Read.bit a l.result h.seat.me.0 v1 view h.side true c.self.invariant.2,
      may_still h.side c.in-Read.bit a l.result h.seat.me.0 v1 view (other h.side) false c.self.invariant.3,
      (ap (λ (u : View). u.first) view ∙ c.self.invariant.4.0, sym (opened_by h.side c.in-Read.bit a l.result h.seat.me.0 v1 view)),
    )

pub returns-in-Read-clause-grows : goal.returns-in-Read-clause-grows
returns-in-Read-clause-grows g c = grind arith

pub returns-in-Read-clause-oracle : goal.returns-in-Read-clause-oracle
returns-in-Read-clause-oracle g c = grind (arith, c.answer.ensures.agree, c.answer.ensures.asks, c.answer.new.oracle, c.args.oracle.now, c.load-found.result, c.self.inside.kept.first, g.O.Oracle.answers)

pub returns-in-Write-clause-grows : goal.returns-in-Write-clause-grows
returns-in-Write-clause-grows g c = grind arith
