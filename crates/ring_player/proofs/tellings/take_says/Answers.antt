use Rattle.std.proofs.Common.{inl, inr, sym, subst, ◌∙◌, arith, true, false, ◌≡◌}
use Rattle.ring_core.proofs.LawLemmas.{events_tell_by_one_takes}
use Rattle.ring_player.specs.Tellings.{IsTakeStage, wants_of}
use Rattle.ring_player.proofs.TellingSteps.{take_begins, take_goes}
use Rattle.ring_player.proofs.tellings.take_says.Goals as goal

pub returns-in-Between : goal.returns-in-Between
returns-in-Between c script takes i wanted few are first at before now =
    take_begins script takes i (events_tell_by_one_takes script.shape (wants_of script takes) takes i few) c.args.wanted c.args.before.taken (subst (λ s. IsTakeStage s script takes i) c.in-Between.is at) wanted before.0

pub returns-then-before-now : goal.returns-then-before-now
returns-then-before-now c script takes i wanted few are first at before now =
    elim (take_goes script takes i (events_tell_by_one_takes script.shape (wants_of script takes) takes i few) c.args.before.taken c.args.now.taken c.args.before.empty c.args.now.empty are first
    (subst (λ s. IsTakeStage s script takes i) c.in-Taking.is at) before.0 before.1 now.0 now.1) [
      | inl e ↦ elim e [ inl z ↦ (z.1, z.2) | inr z ↦ absurd (omega (arith, z.0, c.if-before-now.true)) ]
      | inr z ↦ absurd (omega (arith, z.0, c.if-before-now.true))
    ]

pub returns-then-before-now-2 : goal.returns-then-before-now-2
returns-then-before-now-2 c script takes i wanted few are first at before now =
    elim (take_goes script takes i (events_tell_by_one_takes script.shape (wants_of script takes) takes i few) c.args.before.taken c.args.now.taken c.args.before.empty c.args.now.empty are first
    (subst (λ s. IsTakeStage s script takes i) c.in-Taking.is at) before.0 before.1 now.0 now.1) [
      | inl e ↦ elim e [ inl z ↦ absurd (omega (arith, z.0, c.if-before-now.false)) | inr z ↦ (z.2, z.3) ]
      | inr z ↦ absurd (omega (arith, z.1, c.if-before-now-2.true))
    ]

pub returns-then-now : goal.returns-then-now
returns-then-now c script takes i wanted few are first at before now =
    elim (take_goes script takes i (events_tell_by_one_takes script.shape (wants_of script takes) takes i few) c.args.before.taken c.args.now.taken c.args.before.empty c.args.now.empty are first
    (subst (λ s. IsTakeStage s script takes i) c.in-Taking.is at) before.0 before.1 now.0 now.1) [
      | inl e ↦ absurd (elim e [ inl z ↦ omega (arith, z.0, c.if-before-now.false) | inr z ↦ omega (arith, z.1, c.if-before-now-2.false) ])
      | inr z ↦ elim z.2 [ inl y ↦ (y.1, y.2) | inr y ↦ absurd (y.0 (now.2.0 c.if-now.true)) ]
    ]

pub returns-else-now : goal.returns-else-now
returns-else-now c script takes i wanted few are first at before now =
    elim (take_goes script takes i (events_tell_by_one_takes script.shape (wants_of script takes) takes i few) c.args.before.taken c.args.now.taken c.args.before.empty c.args.now.empty are first
    (subst (λ s. IsTakeStage s script takes i) c.in-Taking.is at) before.0 before.1 now.0 now.1) [
      | inl e ↦ absurd (elim e [ inl z ↦ omega (arith, z.0, c.if-before-now.false) | inr z ↦ omega (arith, z.1, c.if-before-now-2.false) ])
      | inr z ↦ elim z.2 [ inl y ↦ absurd (true_false (sym (now.2.1 y.0) ∙ c.if-now.false)) | inr y ↦ (y.1, y.2) ]
    ]
  where
    true_false : true ≡ false → ⊥
    true_false e = absurd (cc)
