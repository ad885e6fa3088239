use Rattle.std.proofs.Common.{◌≡◌, refl, ℕ, suc, ◌+◌, ◌%◌, ◌^◌, ◌<◌, List, length, take, arith, sym, subst, ap, ◌∙◌, length-set}
use Rattle.std.proofs.lemmas.List.{take_more_set}
use Rattle.ring_seats.proofs.Common.{Shape, AllFit, capacity_of, width_of, words_read, GrowsBy}
use Rattle.ring_core.proofs.LawLemmas.{words_by_one_more_fit}
use Rattle.ring_seats.proofs.CounterPuts.{length-first}
use Rattle.ring_seats.proofs.CounterSteps.{same_shape, next_place, next_load, loaded_one}
use Rattle.ring_seats.proofs.counter_steppers.Stepper+Counting.read_items.Goals as goal

pub read_cell-requires-clause-program : goal.read_cell-requires-clause-program
read_cell-requires-clause-program c item small =
    let a = c.args.self.now in
    let i = c.loads.invariant in
    let before : List ℕ = take c.loads.index c.loads.into in
    let long : length before ≡ c.loads.index = length-first c.loads.index c.loads.into i.2 in
    next_load a c.args.cell c.requires.stands.1 c.loads.self c.loads.place before i.0 (i.4 ∙ ap (λ (n : ℕ). (c.args.cell + n) % capacity_of a.ring.shape) (sym long)) (length c.args.into.now) item
    (omega (arith, long, c.loads-test.true, i.3)) i.1 small c.requires.program

pub loads-preserved : goal.loads-preserved
loads-preserved c =
    let a = c.args.self.now in
    let i = c.loads.invariant in
    let item = c.read_cell.result in
    let before : List ℕ = take c.loads.index c.loads.into in
    let long : length before ≡ c.loads.index = length-first c.loads.index c.loads.into i.2 in
    let more = take_more_set c.loads.into c.loads.index item c.loads-test.true in
    let plus : suc c.loads.index ≡ c.loads.index + 1 = omega arith in
    let one : c.loads.place + 1 ≡ suc c.loads.place = omega arith in
    let next = c.past_in-place.ensures ∙ (λ j. one j % i.6 j) in
    let grows = loaded_one a c.args.cell c.requires.stands.1 c.loads.self c.loads.place before i.0 (i.4 ∙ ap (λ (n : ℕ). (c.args.cell + n) % capacity_of a.ring.shape) (sym long)) c.read_cell.new.self item c.read_cell.ensures.grows in
    let fit = words_by_one_more_fit a.ring.shape before item i.1 (subst (λ (s : Shape). item < 2 ^ width_of s) (same_shape a c.loads.self i.0.same) c.read_cell.ensures.fits) in (
      subst (λ (l : List ℕ). GrowsBy a c.read_cell.new.self (words_read a.ring.shape c.args.cell l)) (sym more) grows,
      subst (AllFit a.ring.shape) (sym more) fit,
      omega (arith, c.loads-test.true, length-set c.loads.into c.loads.index item),
      length-set c.loads.into c.loads.index item ∙ i.3,
      next_place c.args.cell c.loads.index c.loads.place c.past_in-place.result (capacity_of a.ring.shape) i.4 next ∙ ap (λ (n : ℕ). (c.args.cell + n) % capacity_of a.ring.shape) plus,
      refl,
      i.6,
    )
