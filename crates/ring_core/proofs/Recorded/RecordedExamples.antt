-- The recorded calls of small runs.
use Rattle.std.proofs.Common.{◌≡◌, inl, ℕ, zero, suc, true, List, [], ◌∷◌, ◌++◌, take, refl, arith}
use Rattle.queue_calls.specs.Calls.{PutBegin, PutEnd, CloseBegin, CloseEnd, TakeBegin, TakeEnd, Passed, Lacked, Shut}
use Rattle.ring_core.proofs.Common.{P, C, events_of, Puts, Stored, Full, put_program, take_program, recorded, AreOffered, AreWanted}
use Rattle.bits_core.specs.declared.events.Event.{Event}
use Rattle.ring_core.proofs.Examples.{one_cell, put_and_close, second_scan}

-- two items are offered, of which one fits
abbrev two_items : ℕ → List ℕ
two_items n = 1 ∷ 0 ∷ []

two_items-offered : AreOffered one_cell two_items 0 0 put_and_close.puts
unfolding one_cell
two_items-offered = (omega arith, refl, tt)

-- each take asks for one item
abbrev one_each : ℕ → ℕ
one_each j = 1

one_each-wanted : AreWanted one_cell one_each 0 0 second_scan.takes
unfolding one_cell
one_each-wanted = ((omega arith, inl refl), tt)

-- all of the producer's events, and then all of the consumer's: a second scan finds the item, and the next take returns Closed
abbrev one_by_one : List Event
one_by_one = events_of P (put_program one_cell put_and_close) ++ events_of C (take_program one_cell second_scan)

one_by_one-recorded :
    recorded one_cell two_items one_each one_by_one put_and_close second_scan ≡
    PutBegin (1 ∷ 0 ∷ []) ∷ PutEnd (Passed 1 true) ∷ CloseBegin ∷ CloseEnd ∷ TakeBegin 1 ∷ TakeEnd (Passed (1 ∷ []) true) ∷ TakeBegin 1 ∷ TakeEnd Shut ∷ []
unfolding one_cell
one_by_one-recorded = refl

-- a put finds the ring full, with two events; the close has begun, and the take is cut, so neither has ended
abbrev then_one : ℕ → List ℕ
then_one zero = 1 ∷ 0 ∷ []
then_one (suc j) = 1 ∷ []

abbrev full_after_one : Puts
full_after_one = record { puts = Stored 0 (1 ∷ []) ∷ Full 0 ∷ []; closes = true }

abbrev cut_short : List Event
cut_short = take 11 (events_of P (put_program one_cell full_after_one)) ++ take 13 (events_of C (take_program one_cell second_scan))

cut_short-recorded :
    recorded one_cell then_one one_each cut_short full_after_one second_scan ≡
    PutBegin (1 ∷ 0 ∷ []) ∷ PutEnd (Passed 1 true) ∷ PutBegin (1 ∷ []) ∷ PutEnd Lacked ∷ CloseBegin ∷ TakeBegin 1 ∷ []
unfolding one_cell
cut_short-recorded = refl
