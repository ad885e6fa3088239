-- Once a take has returned Closed, the lists of every longer history are the same.
use Rattle.ring_core.proofs.Readings.ItemsRead.{items-are_read}
use Rattle.ring_core.proofs.Common.{FollowsPuts, first_count, take-append_seam, take-length, filter-append, Side, C, P, subhistory, clock, IsPrefix, FollowsTakes, IsTold, items_put, items_taken}
use Rattle.ring_core.proofs.Common.{items_put_in, RingLaw, InEveryRun, ClosedStays}
use Rattle.std.proofs.Common.{◌≡◌, ℕ, ◌≤◌, List, length, take, sym, ap, subst, ◌∙◌, arith, append_assoc, length-append}
use Rattle.bits_core.specs.declared.events.Event.{Event}
use Rattle.ring_core.proofs.Readings.Over.{taken-are_read}

-- a side's own events in a prefix are a prefix of those in the whole
own_begins : (s : Side) (h h' : List Event) (program : List Event) → IsPrefix h h' → IsPrefix (subhistory s h') program → IsPrefix (subhistory s h) program
own_begins s h h' program (later, e) (rest, f) = grind (arith, append_assoc, filter-append)

-- the clock of the whole history at the end of a prefix
clock_there : (s : Side) (h h' : List Event) → IsPrefix h h' → clock s h' (length h) ≡ length (subhistory s h)
clock_there s h h' (later, e) = ap (λ l. length (subhistory s (take (length h) l))) (sym e) ∙ ap (λ l. length (subhistory s l)) (take-append_seam h later)

pub closed-stays : InEveryRun RingLaw → ClosedStays
closed-stays holds shape h h' puts puts' takes takes' run run' begins told =
    let follows_puts : FollowsPuts shape h puts' = record { are = run'.puts_follow.are; events = own_begins P h h' _ begins run'.puts_follow.events } in
    let follows_takes : FollowsTakes shape h takes' = record { are = run'.takes_follow.are; events = own_begins C h h' _ begins run'.takes_follow.events } in
    let put_same : items_put_in shape h puts ≡ items_put_in shape h puts' = items-are_read shape h puts puts' run.puts_follow follows_puts in
    let (taken_same, told_same) = taken-are_read shape h takes takes' run.takes_follow follows_takes in
    let at : ℕ = length h in
    let told' : IsTold shape takes' (clock C h' at) = subst (λ t. IsTold shape takes' t) (sym (clock_there C h h' begins)) (told_same told) in
    let law = holds shape h' puts' takes' run' in
    let (later, e) = begins in
    let longer : at ≤ length h' = omega (arith, length-append h later, ap length e) in
    let here = law.closed at at told' (omega arith) in
    let end = law.closed at (length h') told' longer in
    let end_p : clock P h' (length h') ≡ length (subhistory P h') = ap (λ l. length (subhistory P l)) (take-length h') in
    let end_c : clock C h' (length h') ≡ length (subhistory C h') = ap (λ l. length (subhistory C l)) (take-length h') in (
      ap (items_put shape first_count puts'.puts) (sym end_p) ∙ end.0 ∙ sym here.0 ∙ ap (items_put shape first_count puts'.puts) (clock_there P h h' begins) ∙ sym put_same,
      ap (items_taken shape first_count takes'.takes) (sym end_c) ∙ end.1 ∙ sym here.1 ∙ ap (items_taken shape first_count takes'.takes) (clock_there C h h' begins) ∙ sym taken_same,
    )
