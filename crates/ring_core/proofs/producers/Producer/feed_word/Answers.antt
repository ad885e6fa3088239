use Rattle.ring_core.proofs.Common.{slice_index_or, modulus_of, UnaryState, UnaryStands, Storing, ProducerState}
use Rattle.std.proofs.Common.{◌≡◌, ℕ, ◌+◌, ◌%◌, [], ◌∷◌, ◌++◌, ap, ◌∙◌, subst, arith}
use Rattle.ring_core.specs.contracts.producers.Producer.{the_view}
use Rattle.ring_core.proofs.Machines.MachineParts.{none_next}
use Rattle.ring_core.proofs.Machines.Batches.{taken_at, fits_at}
use Rattle.ring_core.proofs.Machines.ProducerInvariant.{at_stage, next_so, word_keeps, word_whole}
use Rattle.ring_core.proofs.Machines.ProducerMoves.{word_on, word_so, word_over}
use Rattle.ring_core.proofs.producers.Producer.feed_word.Goals as goal

abbrev with_value : UnaryState → ℕ → UnaryState
with_value row v = record row { value = v }

pub new-self-inside-requires-clause-fits : goal.new-self-inside-requires-clause-fits
new-self-inside-requires-clause-fits c =
    let p : ProducerState = the_view c.self.inside in
    let (counted, putting, keeping, more) = at_stage p Storing c.self.invariant.0 (rw (← c.self.view_is) at c.requires.stage) in
    let next : ℕ = p.index + 1 in
    (fits_at p.shape p.items next (slice_index_or c.self.inside.items next 0) putting.offers.fit
    (taken_at c.self.inside.items c.self.inside.offered next (omega (arith, c.if-self.true, keeping.1)))).0

pub invariant_of-self : goal.invariant_of-self
invariant_of-self c =
    let p : ProducerState = the_view c.self.inside in
    let stage : p.stage ≡ Storing = rw (← c.self.view_is) at c.requires.stage in
    let (counted, putting, keeping, more) = at_stage p Storing c.self.invariant.0 stage in
    let next : ℕ = p.index + 1 in (
      next_so p c.new-self-inside.result c.past_in-cell.result (slice_index_or c.self.inside.items next 0) next (omega arith) c.self.invariant.0 stage
          c.if-self.true (c.past_in-cell.ensures ∙ ap (λ k. (p.cell + next) % k) c.capacity.ensures.value)
          (taken_at c.self.inside.items c.self.inside.offered next (omega (arith, c.if-self.true, keeping.1))) c.new-self-inside.ensures.state,
      c.self.invariant.1,
      c.self.invariant.2,
      omega (arith, c.if-self.true, c.self.invariant.2),
    )

pub invariant_of-self-else-self : goal.invariant_of-self-else-self
invariant_of-self-else-self c =
    let p : ProducerState = the_view c.self.inside in (
      word_keeps p c.feed.new.self c.write.new.self c.self.invariant.0 (rw (← c.self.view_is) at c.requires.stage) c.feed.ensures.state
          (c.write.ensures.state ∙ ap (with_value p.row) (c.past_in.ensures ∙ ap (λ k. (p.count + p.most) % k) c.modulus.ensures.value)),
      c.self.invariant.1,
      c.self.invariant.2,
      c.self.invariant.3,
    )

pub returns-then-self-clause-stands : goal.returns-then-self-clause-stands
returns-then-self-clause-stands c =
    let p : ProducerState = the_view c.self.inside in
    let stage : p.stage ≡ Storing = rw (← c.self.view_is) at c.requires.stage in
    let (counted, putting, keeping, more) = at_stage p Storing c.self.invariant.0 stage in
    rw (← c.self.view_is)
    (word_so p c.feed.new.self c.new-self-inside.result c.args.answer (p.index + 1) (omega arith) stage c.feed.ensures.stands
    (word_whole p c.feed.new.self c.next.result putting.writes c.feed.ensures.state (none_next c.next.result c.is_none.result c.is_none.ensures c.if-is_none.true) c.next.ensures.stands)
    putting.writes.item_is c.new-self-inside.ensures.stands)

pub returns-else-self-clause-stands : goal.returns-else-self-clause-stands
returns-else-self-clause-stands c =
    let p : ProducerState = the_view c.self.inside in
    let stage : p.stage ≡ Storing = rw (← c.self.view_is) at c.requires.stage in
    let (counted, putting, keeping, more) = at_stage p Storing c.self.invariant.0 stage in
    let value : c.past_in.result ≡ (p.count + p.most) % modulus_of p.shape = c.past_in.ensures ∙ ap (λ k. (p.count + p.most) % k) c.modulus.ensures.value in
    rw (← c.self.view_is)
    (word_over p c.feed.new.self c.write.new.self c.args.answer stage c.feed.ensures.stands
    (word_whole p c.feed.new.self c.next.result putting.writes c.feed.ensures.state (none_next c.next.result c.is_none.result c.is_none.ensures c.if-is_none.true) c.next.ensures.stands)
    putting.writes.item_is (omega (arith, c.if-self.false, keeping.0)) keeping.1
    (λ values made stands. subst (λ v. UnaryStands c.write.new.self (values ++ v ∷ []) made) value (c.write.ensures.stands values made stands)))

pub returns-else-is_none-clause-stands : goal.returns-else-is_none-clause-stands
returns-else-is_none-clause-stands c =
    rw (← c.self.view_is)
    (word_on (the_view c.self.inside) c.feed.new.self c.args.answer (rw (← c.self.view_is) at c.requires.stage) c.feed.ensures.stands)
