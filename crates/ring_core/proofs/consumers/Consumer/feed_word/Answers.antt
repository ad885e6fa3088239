use Rattle.std.proofs.Common.{◌≡◌, ℕ, ◌+◌, ◌%◌, [], ◌∷◌, ◌++◌, length, take, ap, ◌∙◌, subst, arith, length-append}
use Rattle.ring_core.proofs.Common.{modulus_of, UnaryState, UnaryStands, Loading, ConsumerState}
use Rattle.ring_core.specs.contracts.consumers.Consumer.{the_view}
use Rattle.ring_core.proofs.Machines.Batches.{taken_so}
use Rattle.ring_core.proofs.CountRow.{take_batch_below}
use Rattle.ring_core.proofs.Machines.ConsumerInvariant.{at_stage, word_keeps, word_whole}
use Rattle.ring_core.proofs.Machines.ConsumerMoves.{word_on, word_next, word_over}
use Rattle.ring_core.proofs.consumers.Consumer.feed_word.Goals as goal

abbrev with_value : UnaryState → ℕ → UnaryState
with_value row v = record row { value = v }

pub invariant_of-self-else-self : goal.invariant_of-self-else-self
invariant_of-self-else-self c =
    let p : ConsumerState = the_view c.self.inside in
    let stage : p.stage ≡ Loading = rw (← c.self.view_is) at c.requires.stage in
    let (counted, taking, loads, less, few, unread) = at_stage p Loading c.self.invariant.0 stage in
    let len : length p.items ≡ c.self.inside.taken = taken_so c.self.inside.items c.self.inside.taken (omega (arith, c.self.ranges, c.self.invariant.1)) in (
      word_keeps p c.feed.new.self c.write.new.self (take (c.self.inside.taken + 1) c.keep_one.new.kept) c.self.invariant.0 stage
          (grind (arith, length-append))
          (c.write.ensures.state ∙ ap (with_value p.row) (c.past_in.ensures ∙ ap (λ k. (p.count + p.most) % k) c.modulus.ensures.value)),
      omega (arith, len, less, c.self.invariant.3),
      c.self.invariant.2,
      c.self.invariant.3,
    )

pub returns-in-None-clause-stands : goal.returns-in-None-clause-stands
returns-in-None-clause-stands c =
    rw (← c.self.view_is) (word_on (the_view c.self.inside) c.feed.new.self c.args.answer (rw (← c.self.view_is) at c.requires.stage) c.feed.ensures.stands)

pub returns-then-self-clause-stands : goal.returns-then-self-clause-stands
returns-then-self-clause-stands c =
    let p : ConsumerState = the_view c.self.inside in
    let stage : p.stage ≡ Loading = rw (← c.self.view_is) at c.requires.stage in
    let (counted, taking, loads, less, few, unread) = at_stage p Loading c.self.invariant.0 stage in
    rw (← c.self.view_is)
    (word_next p c.feed.new.self c.new-self-inside.result c.args.answer c.in-Some.item _ stage c.feed.ensures.stands
    (word_whole p c.feed.new.self c.args.answer c.value.result c.in-Some.item loads c.feed.ensures.state c.in-Some.is c.value.ensures.stands)
    c.keep_one.ensures.kept c.new-self-inside.ensures.stands)

pub returns-else-self-clause-stands : goal.returns-else-self-clause-stands
returns-else-self-clause-stands c =
    let p : ConsumerState = the_view c.self.inside in
    let stage : p.stage ≡ Loading = rw (← c.self.view_is) at c.requires.stage in
    let (counted, taking, loads, less, few, unread) = at_stage p Loading c.self.invariant.0 stage in
    let len : length p.items ≡ c.self.inside.taken = taken_so c.self.inside.items c.self.inside.taken (omega (arith, c.self.ranges, c.self.invariant.1)) in
    let value : c.past_in.result ≡ (p.count + p.most) % modulus_of p.shape = c.past_in.ensures ∙ ap (λ k. (p.count + p.most) % k) c.modulus.ensures.value in
    rw (← c.self.view_is)
    (word_over p c.feed.new.self c.write.new.self c.args.answer c.in-Some.item (take (c.self.inside.taken + 1) c.keep_one.new.kept) stage c.feed.ensures.stands
    (word_whole p c.feed.new.self c.args.answer c.value.result c.in-Some.item loads c.feed.ensures.state c.in-Some.is c.value.ensures.stands)
    c.keep_one.ensures.kept
    (grind (arith, length-append))
    (λ values made stands. subst (λ v. UnaryStands c.write.new.self (values ++ v ∷ []) made) value (c.write.ensures.stands values made stands)))

pub past_in-cell-requires : goal.past_in-cell-requires
past_in-cell-requires c =
    let p : ConsumerState = the_view c.self.inside in
    let (counted, taking, loads, less, few, unread) = at_stage p Loading c.self.invariant.0 (rw (← c.self.view_is) at c.requires.stage) in (
      omega (arith, c.self.invariant.0.cell_below, c.capacity.ensures.value),
      omega (arith, c.if-self.true, few, taking.few, p.shape.small_take_batch, c.capacity.ensures.value),
      omega (arith, c.capacity.ensures.few),
    )

pub past_in-requires : goal.past_in-requires
past_in-requires c =
    let p : ConsumerState = the_view c.self.inside in
    let (counted, taking, loads, less, few, unread) = at_stage p Loading c.self.invariant.0 (rw (← c.self.view_is) at c.requires.stage) in (
      omega (arith, c.self.invariant.0.count_below, c.modulus.ensures.value),
      omega (arith, few, taking.few, take_batch_below p.shape, c.modulus.ensures.value),
      omega (arith, c.modulus.ensures.few),
    )
