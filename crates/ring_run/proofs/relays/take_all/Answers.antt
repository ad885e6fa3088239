use Rattle.std.specs.Prelude.{◌-◌, if◌then◌else◌, min}
use Rattle.std.proofs.lemmas.List.{length-append, length-take-le}
use Rattle.std.proofs.Common.{rules, ◌≡◌, ◌+◌, ◌≤◌, ℕ, Bool, false, ◌++◌, length, take, refl, ap, sym, subst, ◌∙◌, arith}
use Rattle.ring_core.specs.declared.replies.TakeBatchReply as replies
use Rattle.ring_core.specs.declared.replies.TakeBatchReply.TheVariants as reply
use Rattle.bits_core.specs.Shape.{take_batch_of}
use Rattle.ring_seats.specs.Ring.{Ring}
use Rattle.ring_ends.specs.Ends.{HasTakenAll}
use Rattle.ring_run.specs.Relays.{TakesAre}
use Rattle.ring_run.proofs.RelayLemmas.{same_trans, takes_there, if_err}
use Rattle.ring_run.proofs.RelayTakes.{ends_empty, no_takes_are, took, was_empty, was_told}
use Rattle.ring_run.proofs.relays.take_all.Given.{Over}
use Rattle.ring_core.proofs.LawLemmas.{takes_are_read}
use Rattle.ring_run.proofs.relays.take_all.Goals.{After-take_into}
use Rattle.ring_run.proofs.relays.take_all.Goals as goal

-- how many places a take has
asks : (g : Over) (c : After-take_into g) →
    length (take c.next_take-wanted.result c.takes.room) ≡ min (take_batch_of (g.E.TakeEnd.end c.take_into.new.taker).ring.shape) (c.args.limit - (length c.takes.items.items + c.takes.empty))
asks g c = grind (arith, rules, c.next_take-wanted.ensures.lesser, c.len-in-takes.ensures, c.takes.invariant.8, c.take_into.ensures.same.ring)

-- the items taken before
yet : (g : Over) (c : After-take_into g) →
    (let b = g.E.TakeEnd.end c.take_into.new.taker in TakesAre b.ring.shape (g.E.TakeEnd.end c.takes.taker).list c.args.limit c.takes.items.items c.takes.made c.takes.empty false)
yet g c = grind (arith, takes_there, c.take_into.ensures.same, c.takes.invariant.2)

pub takes-init : goal.takes-init
takes-init g c = grind (arith, no_takes_are, c.requires.idle, c.requires.none, c.requires.fresh, c.shape-shape.ensures.shape, c.requires.first.0, c.requires.first.1)

abbrev Came : (g : Over) (c : After-take_into g) → replies.TakeBatchReply → Type 0
Came g c r = let b = g.E.TakeEnd.end c.take_into.new.taker in HasTakenAll b.ring.shape (length (take c.next_take-wanted.result c.takes.room)) (g.E.TakeEnd.end c.takes.taker).list b.list r c.take_into.new.into

brought : (g : Over) (c : After-take_into g) (n : ℕ) → Came g c (reply.Taken n) →
    (let b = g.E.TakeEnd.end c.take_into.new.taker in (1 ≤ n) × TakesAre b.ring.shape b.list c.args.limit (c.takes.items.items ++ take n c.take_into.new.into) (c.takes.made + 1) c.takes.empty false)
brought g c n came =
    let a = g.E.TakeEnd.end c.takes.taker in
    let b = g.E.TakeEnd.end c.take_into.new.taker in
    took takes_are_read b.ring.shape a.list b.list c.args.limit c.takes.items.items c.takes.made c.takes.empty (yet g c) (length (take c.next_take-wanted.result c.takes.room)) (asks g c) c.take_into.new.into n came

-- it brought no more than is left of the limit
few : (g : Over) (c : After-take_into g) (n : ℕ) → n ≤ length (take c.next_take-wanted.result c.takes.room) →
    (length (take n c.take_into.new.into) ≡ n) × (length c.takes.items.items + n + c.takes.empty ≤ c.args.limit)
few g c n most = grind (arith, asks, length-take-le, c.take_into.ensures.long, c.if-len-empty.true, c.len.ensures)

pub takes-preserved-in-Taken : goal.takes-preserved-in-Taken
takes-preserved-in-Taken g c =
    let t = (goal.at.takes-preserved-in-Taken g c).After-take_into in
    let i = c.takes.invariant in
    let n : ℕ = c.in-Taken.count in
    let s = c.in-Taken.ensures in
    let b = g.E.TakeEnd.end c.take_into.new.taker in
    let list : c.append.new.items.items ≡ c.takes.items.items ++ take n c.take_into.new.into = c.in_ok-append-in-Taken.ensures.items in
    let more = brought g t n s.phrase in
    let room = few g t n s.within in
    let long : length c.append.new.items.items ≡ length c.takes.items.items + n = omega (arith, ap length list, length-append c.takes.items.items (take n c.take_into.new.into), room.0) in
    grind (arith, same_trans, c.append.ensures.capacity, c.look.ensures.0, c.look.ensures.1, c.if-putter-eq0.true)

pub takes-smaller-in-Taken : goal.takes-smaller-in-Taken
takes-smaller-in-Taken g c =
    let t = (goal.at.takes-smaller-in-Taken g c).After-take_into in
    let n : ℕ = c.in-Taken.count in
    let s = c.in-Taken.ensures in
    let list : c.append.new.items.items ≡ c.takes.items.items ++ take n c.take_into.new.into = c.in_ok-append-in-Taken.ensures.items in
    let more = brought g t n s.phrase in
    let room = few g t n s.within in
    let long : length c.append.new.items.items ≡ length c.takes.items.items + n = omega (arith, ap length list, length-append c.takes.items.items (take n c.take_into.new.into), room.0) in
    grind arith

pub takes-preserved-in-Empty : goal.takes-preserved-in-Empty
takes-preserved-in-Empty g c =
    let t = (goal.at.takes-preserved-in-Empty g c).After-take_into in
    let i = c.takes.invariant in
    let s = c.in-Empty.ensures in
    let open_yet : c.takes.closed ≡ false = c.takes-test.true in (
      s.idle,
      same_trans _ _ _ i.1 s.same,
      subst (TakesAre _ _ c.args.limit c.takes.items.items (c.takes.made + 1) (c.takes.empty + 1)) (sym open_yet) (was_empty takes_are_read _ _ _ c.args.limit c.takes.items.items c.takes.made c.takes.empty (yet g t) _ (asks g t) c.take_into.new.into s.phrase),
      subst (λ (z : Bool). length c.takes.items.items + (c.takes.empty + 1) + (if z then 1 else 0) ≤ c.args.limit) (sym open_yet) (omega (arith, c.if-len-empty.true, c.len.ensures)),
      refl,
      i.5,
      omega (arith, i.6),
      subst (λ (z : Bool). c.takes.made + 1 ≤ length c.takes.items.items + (c.takes.empty + 1) + (if z then 1 else 0)) (sym open_yet)
          (omega (arith, subst (λ (z : Bool). c.takes.made ≤ length c.takes.items.items + c.takes.empty + (if z then 1 else 0)) open_yet i.7)),
      i.8 ∙ sym (ap (λ (r : Ring). r.shape) s.same.ring),
      omega (arith, c.waits.ensures.waited, c.look.ensures.0, i.9),
      omega (arith, c.waits.ensures.most, c.look.ensures.1, c.if-putter-eq0.true),
      omega (arith, c.waits.ensures.most, c.look.ensures.1, i.11),
      λ e. ends_empty takes_are_read _ _ _ c.args.limit c.takes.items.items c.takes.made c.takes.empty (yet g t) _ (asks g t) c.take_into.new.into s.phrase,
    )

pub takes-preserved : goal.takes-preserved
takes-preserved g c =
    let t = (goal.at.takes-preserved g c).After-take_into in
    let i = c.takes.invariant in
    let s = c.in-Closed.ensures in (
      s.idle,
      same_trans _ _ _ i.1 s.same,
      was_told takes_are_read _ _ _ c.args.limit c.takes.items.items c.takes.made c.takes.empty (yet g t) _ (asks g t) c.take_into.new.into s.phrase,
      omega (arith, c.if-len-empty.true, c.len.ensures),
      refl,
      i.5,
      i.6,
      omega (arith, subst (λ (z : Bool). c.takes.made ≤ length c.takes.items.items + c.takes.empty + (if z then 1 else 0)) c.takes-test.true i.7),
      i.8 ∙ sym (ap (λ (r : Ring). r.shape) s.same.ring),
      c.look.ensures.0 ∙ i.9,
      omega (arith, c.look.ensures.1, i.10),
      omega (arith, c.look.ensures.1, i.11),
      λ e. absurd (omega (arith, e, c.look.ensures.1, c.if-putter-eq0.true)),
    )

pub returns-in_err-append-in-Taken-clause-fault : goal.returns-in_err-append-in-Taken-clause-fault
returns-in_err-append-in-Taken-clause-fault g c =
    let t = (goal.at.returns-in_err-append-in-Taken-clause-fault g c).After-take_into in
    let i = c.takes.invariant in
    let n : ℕ = c.in-Taken.count in
    let s = c.in-Taken.ensures in
    let b = g.E.TakeEnd.end c.take_into.new.taker in
    let more = brought g t n s.phrase in
    let room = few g t n s.within in
    let long : length (c.takes.items.items ++ take n c.take_into.new.into) ≡ length c.takes.items.items + n = omega (arith, length-append c.takes.items.items (take n c.take_into.new.into), room.0) in
    grind (arith, if_err, c.in_err-append-in-Taken.ensures.full)
