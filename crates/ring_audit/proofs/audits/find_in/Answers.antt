use Rattle.std.proofs.Common.{◌≡◌, ℕ, ◌+◌, List, [], length, take, subst, sym, ap, ◌∙◌, refl, arith, length-append, inl, inr}
use Rattle.std.proofs.Math.Seq.{take-length}
use Rattle.std.proofs.lemmas.List.{take_more, length-take-le}
use Rattle.std.proofs.lemmas.Option.{slice_get-get_or}
use Rattle.ring_audit.proofs.Common.{Event, IsLawful, Reading, ReadingStands, BothFollow, reading}
use Rattle.bits_core.specs.Auditors.{HeardEvents}
use Rattle.ring_audit.specs.Audit.{HasTooFewSlots, IsFound}
use Rattle.ring_audit.proofs.Breaks.{break_of_program, break_of_bits}
use Rattle.ring_audit.proofs.Readings.{followed}
use Rattle.ring_audit.proofs.Rooms.{on_err, too_few_slots}
use Rattle.ring_audit.proofs.audits.find_in.Goals as goal
use Rattle.bits_core.proofs.LawLemmas.{fault_is_first}

pub loop-i-init : goal.loop-i-init
loop-i-init g c =
    let r = c.new-readers.result in
    let some : ReadingStands c.args.shape.now (reading r.puts r.takes r.counted (g.S.Store.items c.args.put.now) []) [] = grind (arith, c.requires.no_put, c.new-readers.ensures.stands) in
    let stands : ReadingStands c.args.shape.now (reading r.puts r.takes r.counted (g.S.Store.items c.args.put.now) (g.S.Store.items c.args.taken.now)) [] = grind (arith, c.requires.none_taken) in
    record {
      heard = c.new-bits.ensures;
      put_shape = c.new-readers.ensures.put_shape;
      take_shape = c.new-readers.ensures.take_shape;
      stands = stands;
      follow = followed r.puts.shape c.args.shape.now r.puts r.takes r.counted (g.S.Store.items c.args.put.now) (g.S.Store.items c.args.taken.now) [] c.new-readers.ensures.put_shape c.told.ensures.follow stands;
      few_put = omega (arith, ap length c.requires.no_put);
      put_room = refl;
      taken_room = refl;
      put_slots = λ first same. same;
      taken_slots = λ first same. same;
    }

pub returns-in-Some-clause-found : goal.returns-in-Some-clause-found
returns-in-Some-clause-found g c = search (arith, break_of_bits, fault_is_first, slice_get-get_or, c.loop-i.invariant, c.in-Some.ensures.kind)

pub returns-in_err-on-clause-refused : goal.returns-in_err-on-clause-refused
returns-in_err-on-clause-refused g c =
    let shape = c.args.shape.now in
    let h : List Event = c.args.events.now in
    let i : ℕ = c.loop-i.i in
    let l = c.loop-i.invariant in
    let old = c.loop-i.readers in
    let new = c.read-on.new.self in
    let put : List ℕ = g.S.Store.items c.loop-i.put in
    let taken : List ℕ = g.S.Store.items c.loop-i.taken in
    let with_it = (c.in_default.ensures.heard shape (take i h) l.heard).marks.lawful in
    let st : ReadingStands old.puts.shape (reading old.puts old.takes old.counted put taken) (take i h) = subst (λ s. ReadingStands s (reading old.puts old.takes old.counted put taken) (take i h)) (sym l.put_shape) l.stands in
    let found : (events : List Event) (items ended : List ℕ) → IsLawful old.puts.shape events → ReadingStands old.puts.shape (reading new.puts new.takes new.counted items ended) events → IsFound old.puts.shape events (take new.counted items) ended c.told-in-loop-i.result =
    subst (λ s. (events : List Event) (items ended : List ℕ) → IsLawful s events → ReadingStands s (reading new.puts new.takes new.counted items ended) events → IsFound s events (take new.counted items) ended c.told-in-loop-i.result)
    c.in_err-on.ensures.put_shape c.told-in-loop-i.ensures.found in
    let few : HasTooFewSlots shape h (g.S.Store.room c.loop-i.put) (g.S.Store.room c.loop-i.taken) =
    too_few_slots old.puts.shape shape h i _ new.puts new.takes new.counted (g.S.Store.room c.loop-i.put) (g.S.Store.room c.loop-i.taken) c.told-in-loop-i.result
    l.put_shape c.loop-i-test.true with_it (c.in_err-on.ensures.refused (take i h) st) found in
    grind (arith, on_err, c.in_err-on.ensures.rooms.1, c.in_err-on.ensures.rooms.0)

pub returns-then-not-branch-clause-found : goal.returns-then-not-branch-clause-found
returns-then-not-branch-clause-found g c =
    let shape = c.args.shape.now in
    let h : List Event = c.args.events.now in
    let i : ℕ = c.loop-i.i in
    let l = c.loop-i.invariant in
    let r : Reading = reading c.loop-i.readers.puts c.loop-i.readers.takes c.loop-i.readers.counted (g.S.Store.items c.loop-i.put) (g.S.Store.items c.loop-i.taken) in
    let with_it = (c.in_default.ensures.heard shape (take i h) l.heard).marks.lawful in
    let old : ReadingStands r.puts.shape r (take i h) = subst (λ s. ReadingStands s r (take i h)) (sym l.put_shape) l.stands in
    break_of_program r.puts.shape shape h i _ l.put_shape c.loop-i-test.true l.heard.marks.lawful with_it
    (subst (λ s. BothFollow s (take i h)) (sym l.put_shape) l.follow) (c.in_ok-on.ensures.stops c.if-not-branch.true (take i h) old)

pub loop-i-preserved : goal.loop-i-preserved
loop-i-preserved g c =
    let shape = c.args.shape.now in
    let h : List Event = c.args.events.now in
    let i : ℕ = c.loop-i.i in
    let l = c.loop-i.invariant in
    let new = c.read-on.new.self in
    let put : List ℕ = g.S.Store.items c.read-on.new.put in
    let taken : List ℕ = g.S.Store.items c.read-on.new.taken in
    let r : Reading = reading c.loop-i.readers.puts c.loop-i.readers.takes c.loop-i.readers.counted (g.S.Store.items c.loop-i.put) (g.S.Store.items c.loop-i.taken) in
    let more = sym (take_more h i _ c.loop-i-test.true) in
    let old : ReadingStands r.puts.shape r (take i h) = subst (λ s. ReadingStands s r (take i h)) (sym l.put_shape) l.stands in
    let on = c.in_ok-on.ensures.goes_on c.if-not-branch.false (take i h) old in
    let stands : ReadingStands shape (reading new.puts new.takes new.counted put taken) (take (i + 1) h) =
    subst (λ s. ReadingStands s (reading new.puts new.takes new.counted put taken) (take (i + 1) h)) l.put_shape
    (subst (ReadingStands r.puts.shape (reading new.puts new.takes new.counted put taken)) more on) in
    record {
      heard = subst (HeardEvents c.feed.new.self shape) more (c.in_default.ensures.heard shape (take i h) l.heard);
      put_shape = c.in_ok-on.ensures.put_shape ∙ l.put_shape;
      take_shape = c.in_ok-on.ensures.take_shape ∙ l.take_shape;
      stands = stands;
      follow = followed new.puts.shape shape new.puts new.takes new.counted put taken (take (i + 1) h) (c.in_ok-on.ensures.put_shape ∙ l.put_shape) c.told-in-loop-i.ensures.follow stands;
      few_put = omega (arith, c.in_ok-on.ensures.few, l.few_put);
      put_room = c.in_ok-on.ensures.rooms.0 ∙ l.put_room;
      taken_room = c.in_ok-on.ensures.rooms.1 ∙ l.taken_room;
      put_slots = λ first same. c.in_ok-on.ensures.put_slots first (l.put_slots first same);
      taken_slots = λ first same. c.in_ok-on.ensures.taken_slots first (l.taken_slots first same);
    }

pub returns-clause-found : goal.returns-clause-found
returns-clause-found g c =
    let shape = c.args.shape.now in
    let h : List Event = c.args.events.now in
    let l = c.loop-i.invariant in
    let put : List ℕ = g.S.Store.items c.loop-i.put in
    let taken : List ℕ = g.S.Store.items c.loop-i.taken in
    let r : Reading = reading c.loop-i.readers.puts c.loop-i.readers.takes c.loop-i.readers.counted put taken in
    let end : c.loop-i.i ≡ length h = omega (arith, c.loop-i-test.false, c.loop-i.auto.i-end) in
    let whole : take c.loop-i.i h ≡ h = ap (λ k. take k h) end ∙ take-length h in
    grind (arith, take-length, c.told-told.ensures.found, c.as_slice.ensures)

pub returns-in_err-on-clause-few : goal.returns-in_err-on-clause-few
returns-in_err-on-clause-few g c =
    let h : List Event = c.args.events.now in
    let i : ℕ = c.loop-i.i in
    let l = c.loop-i.invariant in
    let r : Reading = reading c.loop-i.readers.puts c.loop-i.readers.takes c.loop-i.readers.counted (g.S.Store.items c.loop-i.put) (g.S.Store.items c.loop-i.taken) in
    let st : ReadingStands r.puts.shape r (take i h) = subst (λ s. ReadingStands s r (take i h)) (sym l.put_shape) l.stands in
    on_err c.from_residual.result
    (elim c.in_err-on.ensures.full [
      | inl full ↦ inl (omega arith)
      | inr full ↦ inr (omega (arith, full (take i h) st, length-append {A = Event}, length-take-le i h (omega arith)))
    ])

pub returns-in_err-on-clause-put_slots : goal.returns-in_err-on-clause-put_slots
returns-in_err-on-clause-put_slots g c = λ first same. c.in_err-on.ensures.put_slots first (c.loop-i.invariant.put_slots first same)

pub returns-in_err-on-clause-taken_slots : goal.returns-in_err-on-clause-taken_slots
returns-in_err-on-clause-taken_slots g c = λ first same. c.in_err-on.ensures.taken_slots first (c.loop-i.invariant.taken_slots first same)

pub returns-then-not-branch-clause-put_slots : goal.returns-then-not-branch-clause-put_slots
returns-then-not-branch-clause-put_slots g c = λ first same. c.in_ok-on.ensures.put_slots first (c.loop-i.invariant.put_slots first same)

pub returns-then-not-branch-clause-taken_slots : goal.returns-then-not-branch-clause-taken_slots
returns-then-not-branch-clause-taken_slots g c = λ first same. c.in_ok-on.ensures.taken_slots first (c.loop-i.invariant.taken_slots first same)

pub returns-clause-within : goal.returns-clause-within
returns-clause-within g c =
    let st = c.loop-i.invariant.stands in
    (omega (arith, st.counted_is, ap length st.put_is, length-append st.items st.stored), omega (arith, ap length c.as_slice.ensures))
