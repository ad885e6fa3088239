use Rattle.std.proofs.Common.{◌≡◌, ℕ, ◌+◌, ◌%◌, ◌∷◌, [], ◌++◌, length, ap, ◌∙◌, subst, arith}
use Rattle.ring_core.proofs.Common.{modulus_of, UnaryState, UnaryStands, ConsumerState, IsBetweenWords, IsConsumer}
use Rattle.ring_core.specs.declared.consumers.Stage.TheVariants.{Loading, Counting}
use Rattle.ring_core.specs.contracts.consumers.Consumer.{the_view}
use Rattle.ring_core.proofs.Machines.Batches.{taken_so}
use Rattle.ring_core.proofs.CountRow.{take_batch_below}
use Rattle.ring_core.proofs.Machines.ConsumerInvariant.{at_stage, now_keeps, first_bit}
use Rattle.ring_core.proofs.Machines.ConsumerMoves.{now_counts}
use Rattle.ring_core.proofs.consumers.Consumer.count_now.Goals as goal

abbrev with_value : UnaryState → ℕ → UnaryState
with_value row v = record row { value = v }

abbrev counts : ConsumerState → UnaryState → ℕ → ConsumerState
counts p row m = record p { stage = Counting; row = row; wanted = m; most = m }

pub past_in-requires : goal.past_in-requires
past_in-requires c =
    let p : ConsumerState = the_view c.self.inside in
    let between : IsBetweenWords p = rw (← c.self.view_is) at c.requires in
    let (counted, taking, loads, less, few, unread) = at_stage p Loading c.self.invariant.0 between.stage_is in
    let len : length p.items ≡ c.self.inside.taken = taken_so c.self.inside.items c.self.inside.taken (omega (arith, c.self.ranges, c.self.invariant.1)) in (
      omega (arith, c.self.invariant.0.count_below, c.modulus.ensures.value),
      omega (arith, len, less, few, taking.few, take_batch_below p.shape, c.modulus.ensures.value),
      omega (arith, c.modulus.ensures.few),
    )

pub invariant_of-self : goal.invariant_of-self
invariant_of-self c =
    let p : ConsumerState = the_view c.self.inside in
    let between : IsBetweenWords p = rw (← c.self.view_is) at c.requires in
    let len : length p.items ≡ c.self.inside.taken = taken_so c.self.inside.items c.self.inside.taken (omega (arith, c.self.ranges, c.self.invariant.1)) in (
      now_keeps p c.write.new.self c.self.inside.taken c.self.invariant.0 between len
          (c.write.ensures.state ∙ ap (with_value p.row) (c.past_in.ensures ∙ ap (λ k. (p.count + c.self.inside.taken) % k) c.modulus.ensures.value)),
      c.self.invariant.1,
      c.self.invariant.1,
      c.self.invariant.1,
    )

pub returns-clause-due : goal.returns-clause-due
returns-clause-due c =
    let p : ConsumerState = the_view c.self.inside in
    let between : IsBetweenWords p = rw (← c.self.view_is) at c.requires in
    let len : length p.items ≡ c.self.inside.taken = taken_so c.self.inside.items c.self.inside.taken (omega (arith, c.self.ranges, c.self.invariant.1)) in
    let is : IsConsumer (counts p c.write.new.self c.self.inside.taken) =
    now_keeps p c.write.new.self c.self.inside.taken c.self.invariant.0 between len
    (c.write.ensures.state ∙ ap (with_value p.row) (c.past_in.ensures ∙ ap (λ k. (p.count + c.self.inside.taken) % k) c.modulus.ensures.value)) in
    first_bit c.write.new.self is.row_side is.at.0.0

pub returns-clause-stands : goal.returns-clause-stands
returns-clause-stands c calls made stands =
    let p : ConsumerState = the_view c.self.inside in
    let between : IsBetweenWords p = rw (← c.self.view_is) at c.requires in
    let (counted, taking, loads, less, few, unread) = at_stage p Loading c.self.invariant.0 between.stage_is in
    let len : length p.items ≡ c.self.inside.taken = taken_so c.self.inside.items c.self.inside.taken (omega (arith, c.self.ranges, c.self.invariant.1)) in
    let value : c.past_in.result ≡ (p.count + c.self.inside.taken) % modulus_of p.shape = c.past_in.ensures ∙ ap (λ k. (p.count + c.self.inside.taken) % k) c.modulus.ensures.value in
    now_counts p c.write.new.self c.self.inside.taken between less len
    (λ values made stands. subst (λ v. UnaryStands c.write.new.self (values ++ v ∷ []) made) value (c.write.ensures.stands values made stands))
    calls made (rw (← c.self.view_is) at stands)
