use Rattle.std.proofs.Common.{◌≡◌, ◌+◌, ◌-◌, List, suc, ℕ, false, take, refl, ap, sym, ◌∙◌, subst, arith}
use Rattle.std.proofs.Math.ListN.{drop}
use Rattle.bits_core.specs.Shape.{batch_of}
use Rattle.ring_seats.specs.Ring.{Ring}
use Rattle.ring_run.specs.Relays.{PutsAre}
use Rattle.ring_run.proofs.RelayLemmas.{fit_there, ends_full, no_puts_are, offers, given_there, stored, was_full, same_trans, puts_there}
use Rattle.ring_core.proofs.LawLemmas.{puts_are_read}
use Rattle.ring_run.proofs.relays.put_in_order.Goals.{in-Stored, in-Full}
use Rattle.ring_run.proofs.relays.put_in_order.Goals as goal

pub puts-init : goal.puts-init
puts-init g c = grind (arith, no_puts_are, c.requires.idle, c.requires.fresh, c.shape-shape.ensures.shape, c.requires.first.0, c.requires.first.1)

pub put_all-reply-requires-clause-batch : goal.put_all-reply-requires-clause-batch
put_all-reply-requires-clause-batch g c = grind (arith, fit_there, offers, c.puts.invariant, c.next_batch.ensures, c.requires.fit)

pub puts-preserved : goal.puts-preserved
puts-preserved g c =
    let a = g.E.PutEnd.end c.puts.putter in
    let b = g.E.PutEnd.end c.put_all-reply.new.self in
    let i = c.puts.invariant in
    let s = c.put_all-reply.ensures in
    let given : List ℕ = take (c.puts.put + c.next_batch.result - c.puts.put) (drop c.puts.put c.args.items.now) in
    let left : List ℕ = drop c.puts.put c.args.items.now in
    let whole : given ≡ take (batch_of b.ring.shape) left = grind (arith, given_there, c.next_batch.ensures.most) in
    let there = puts_there a b c.args.items.now c.puts.put c.puts.made c.puts.full s.same i.2 in
    let plus : suc c.puts.made ≡ c.puts.made + 1 = omega arith in
    let more : suc c.puts.full ≡ c.puts.full + 1 = omega arith in (
      s.idle,
      same_trans (g.E.PutEnd.end c.args.putter.now) a b i.1 s.same,
      elim c.match-reply.branch [
        | in-Stored w ↦ subst (λ (z : ℕ × ℕ × ℕ). PutsAre b.ring.shape b.list c.args.items.now z.0 z.1 z.2 false) (λ j. (sym w.put-is j, plus j, sym w.full-is j))
            (stored puts_are_read b.ring.shape a.list b.list c.args.items.now c.puts.put c.puts.made c.puts.full there given (c.puts.put + c.next_batch.result - c.puts.put) w.in-Stored.stored refl whole w.in-Stored.ensures.phrase).1
        | in-Full w ↦ subst (λ (z : ℕ × ℕ × ℕ). PutsAre b.ring.shape b.list c.args.items.now z.0 z.1 z.2 false) (λ j. (sym w.put-is j, plus j, (more ∙ sym w.full-is) j))
            (was_full puts_are_read b.ring.shape a.list b.list c.args.items.now c.puts.put c.puts.made c.puts.full there given whole w.in-Full.ensures.phrase)
      ],
      omega (arith, c.if-made-limit.true),
      elim c.match-reply.branch [ in-Stored w ↦ omega (arith, i.4, w.full-is) | in-Full w ↦ omega (arith, i.4, w.full-is) ],
      refl,
      refl,
      i.7 ∙ sym (ap (λ (x : Ring). x.shape) s.same.ring),
      elim c.match-reply.branch [ in-Stored w ↦ omega (arith, w.waits-is) | in-Full w ↦ omega (arith, i.8, w.full-is, w.waits-is) ],
      elim c.match-reply.branch [
        | in-Stored w ↦ omega (arith, ap (λ t. t.waited) w.taker-is, c.look.ensures.0, i.9, w.full-is)
        | in-Full w ↦ omega (arith, ap (λ t. t.waited) w.taker-is, w.waits.ensures.waited, c.look.ensures.0, i.9, w.full-is)
      ],
      elim c.match-reply.branch [
        | in-Stored w ↦ omega (arith, ap (λ t. t.vain) w.taker-is, c.look.ensures.1, i.10)
        | in-Full w ↦ omega (arith, ap (λ t. t.vain) w.taker-is, w.waits.ensures.most, c.look.ensures.1, c.if-taker-eq0.true)
      ],
      elim c.match-reply.branch [
        | in-Stored w ↦ omega (arith, ap (λ t. t.vain) w.taker-is, c.look.ensures.1, i.11, w.full-is)
        | in-Full w ↦ omega (arith, ap (λ t. t.vain) w.taker-is, w.waits.ensures.most, c.look.ensures.1, i.11, w.full-is)
      ],
      elim c.match-reply.branch [
        | in-Stored w ↦ λ e. absurd (omega (arith, e, ap (λ t. t.vain) w.taker-is, c.look.ensures.1, c.if-taker-eq0.true))
        | in-Full w ↦ λ e. ends_full puts_are_read b.ring.shape a.list b.list c.args.items.now c.puts.put c.puts.made c.puts.full there given w.in-Full.ensures.phrase
      ],
    )
