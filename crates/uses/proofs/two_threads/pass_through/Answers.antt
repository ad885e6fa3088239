use Rattle.std.proofs.Common.{◌≡◌, ◌%◌, ℕ, List, length, take, ap, sym, ◌∙◌, subst, length-take-le}
use Rattle.bits_core.specs.Shape.{modulus_of}
use Rattle.ring_run.specs.Counters.{ShowsWords}
use Rattle.ring_run.specs.Ring.{Ring, RingEnd}
use Rattle.ring_run.specs.Stored.{HasTook}
use Rattle.uses.proofs.Passing.{counts_put, counts_taken, of_ok}
use Rattle.uses.proofs.two_threads.pass_through.Goals as goal

pub returns-clause-prefix : goal.returns-clause-prefix
returns-clause-prefix g c =
    let w = c.work_both-stored in
    let took = of_ok w.result.1 c.in_ok-takes.field-0 (HasTook w.new.taker w.new.taken.items) c.in_ok-takes.was w.ensures.took in
    c.finish-finished.ensures.prefix (take w.result.0 c.args.items.now) w.new.taken.items w.ensures.stored took

pub returns-clause-all : goal.returns-clause-all
returns-clause-all g c told =
    let w = c.work_both-stored in
    let took = of_ok w.result.1 c.in_ok-takes.field-0 (HasTook w.new.taker w.new.taken.items) c.in_ok-takes.was w.ensures.took in
    c.finish-finished.ensures.all (take w.result.0 c.args.items.now) w.new.taken.items w.ensures.stored took (sym c.told-told.ensures ∙ told)

pub returns-clause-counts : goal.returns-clause-counts
returns-clause-counts g c =
    let w = c.work_both-stored in
    let p : RingEnd = w.new.putter in
    let t : RingEnd = w.new.taker in
    let words : List ℕ = c.close-words.result in
    let stored : List ℕ = take w.result.0 c.args.items.now in
    let at : p.ring ≡ c.in_ok-ring.ring = w.ensures.same.0.ring ∙ ap (λ (e : RingEnd). e.ring) c.ends-putter.ensures.putter in
    let shape_is = ap (λ (r : Ring). r.shape) at ∙ c.in_ok-ring.ensures.0 in
    let same : p.ring ≡ t.ring = at ∙ sym (w.ensures.same.1.ring ∙ ap (λ (e : RingEnd). e.ring) c.ends-putter.ensures.taker) in
    let took : HasTook t w.new.taken.items = of_ok w.result.1 c.in_ok-takes.field-0 (HasTook t w.new.taken.items) c.in_ok-takes.was w.ensures.took in
    let shows : ShowsWords p.ring.shape words c.finish-finished.result.history = subst (λ (r : Ring). ShowsWords r.shape words c.finish-finished.result.history) (sym at) c.close-words.ensures.shows in (
      c.word.ensures ∙ counts_put p t same c.finish-finished.result.history c.finish-finished.ensures.meets stored w.new.taken.items w.ensures.stored took words shows c.counts_are_shown.ensures.puts ∙
          (λ i. length-take-le w.result.0 c.args.items.now w.ensures.few i % modulus_of (shape_is i)),
      c.word-2.ensures ∙ counts_taken p t same c.finish-finished.result.history c.finish-finished.ensures.meets stored w.new.taken.items w.ensures.stored took words shows c.counts_are_shown.ensures.takes ∙
          (λ i. length w.new.taken.items % modulus_of (shape_is i)),
    )
