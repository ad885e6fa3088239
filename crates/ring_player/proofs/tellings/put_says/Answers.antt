use Rattle.std.proofs.Common.{inl, inr, subst, arith}
use Rattle.ring_core.proofs.LawLemmas.{events_tell_by_one_puts}
use Rattle.ring_player.specs.Tellings.{IsPutStage, offers_of}
use Rattle.ring_player.proofs.TellingSteps.{close_begins, close_ends, put_begins, put_goes}
use Rattle.ring_player.proofs.tellings.put_says.Goals as goal

pub returns-then-before-items : goal.returns-then-before-items
returns-then-before-items c script puts i asked items few at before now =
    put_begins script puts i asked (events_tell_by_one_puts script.shape (offers_of script puts) puts i few) c.args.before.stored (subst (λ s. IsPutStage s script puts i) c.in-Between.is at) before.0
    (omega (arith, c.if-before-items.true, items))

pub returns-else-before-items : goal.returns-else-before-items
returns-else-before-items c script puts i asked items few at before now =
    close_begins script puts i asked (events_tell_by_one_puts script.shape (offers_of script puts) puts i few) c.args.before.stored (subst (λ s. IsPutStage s script puts i) c.in-Between.is at) before.0
    (omega (arith, c.if-before-items.false, items))

pub returns-then-before-now : goal.returns-then-before-now
returns-then-before-now c script puts i asked items few at before now =
    elim (put_goes script puts i asked (events_tell_by_one_puts script.shape (offers_of script puts) puts i few) c.args.before.stored c.args.before.full c.args.now.stored c.args.now.full
    (subst (λ s. IsPutStage s script puts i) c.in-Putting.is at) before.0 before.1 now.0 now.1) [
      | inl z ↦ (z.1, z.2)
      | inr y ↦ absurd (elim y [ inl z ↦ omega (arith, z.0, c.if-before-now.true) | inr z ↦ omega (arith, z.0, c.if-before-now.true) ])
    ]

pub returns-then-before-now-2 : goal.returns-then-before-now-2
returns-then-before-now-2 c script puts i asked items few at before now =
    elim (put_goes script puts i asked (events_tell_by_one_puts script.shape (offers_of script puts) puts i few) c.args.before.stored c.args.before.full c.args.now.stored c.args.now.full
    (subst (λ s. IsPutStage s script puts i) c.in-Putting.is at) before.0 before.1 now.0 now.1) [
      | inl z ↦ absurd (omega (arith, z.0, c.if-before-now.false))
      | inr y ↦ elim y [ inl z ↦ (z.2, z.3) | inr z ↦ absurd (omega (arith, z.1, c.if-before-now-2.true)) ]
    ]

pub returns-else-before-now-2 : goal.returns-else-before-now-2
returns-else-before-now-2 c script puts i asked items few at before now =
    elim (put_goes script puts i asked (events_tell_by_one_puts script.shape (offers_of script puts) puts i few) c.args.before.stored c.args.before.full c.args.now.stored c.args.now.full
    (subst (λ s. IsPutStage s script puts i) c.in-Putting.is at) before.0 before.1 now.0 now.1) [
      | inl z ↦ absurd (omega (arith, z.0, c.if-before-now.false))
      | inr y ↦ elim y [ inl z ↦ absurd (omega (arith, z.1, c.if-before-now-2.false)) | inr z ↦ (z.2, z.3) ]
    ]

pub returns-in-Closing : goal.returns-in-Closing
returns-in-Closing c script puts i asked items few at before now =
    close_ends script puts i asked (events_tell_by_one_puts script.shape (offers_of script puts) puts i few) (subst (λ s. IsPutStage s script puts i) c.in-Closing.is at)
