-- What one of a side's own events records of its calls.
use Rattle.std.proofs.Common.{◌≡◌, ℕ, suc, ◌+◌, ◌-◌, ◌*◌, ◌<◌, ◌≤◌, Bool, true, false, List, [], ◌∷◌, length, arith, length-append, sym, subst}
use Rattle.queue_calls.specs.Calls.{Event, PutBegin, CloseBegin, CloseEnd, TakeBegin, TakeEnd, Shut}
use Rattle.ring_core.proofs.Common.{C, X, Shape, Count, first_count, events_in, put_answer, put_told, take_answer, take_told, told_or_behind, Take, End, Open, Closed, Takes, end_phrase, take_phrase}
use Rattle.ring_core.proofs.Common.{take_phrases, take_program, count_after}
use Rattle.bits_core.specs.Made.{Read}
use Rattle.register_core.specs.ScanState.{scan_phrase, row_read_by}
use Rattle.ring_core.specs.Puts.{Put, Puts, close_phrase, put_phrase, put_phrases, put_program, stored_after}
use Rattle.ring_core.specs.RecordedByOne.{events_of_puts, events_of_takes, PutTells, PutsTellByOne, TakeTells, TakesTellByOne}
use Rattle.ring_core.proofs.Machines.Lengths.{length-scan}
use Rattle.ring_core.proofs.Readings.Over.{puts_total, takes_total}
use Rattle.ring_core.proofs.Recorded.TellsByOne.{place, first_told, between_told, last_told, told, Told, tells_so}
use Rattle.ring_core.specs.Over.{puts_over, takes_over}

-- ---- puts

-- a put has at least two events
put_long : (shape : Shape) (c : Count) (x : Put) → 2 ≤ events_in (put_phrase shape c x)
put_long shape c x = grind (arith, length-append, length-scan)

-- what an event after all puts records
abbrev put_last : Bool → ℕ → List Event
put_last false i = []
put_last true i = told_or_behind (events_in (close_phrase true)) CloseBegin CloseEnd i []

abbrev put_events : Shape → Count → Put → ℕ
put_events shape c x = events_in (put_phrase shape c x)

abbrev put_begin : (ℕ → List ℕ) → ℕ → Event
put_begin offers j = PutBegin (offers j)

put_told_is :
    (shape : Shape) (offers : ℕ → List ℕ) (j : ℕ) (c : Count) (puts : List Put) (closes : Bool) (i : ℕ) →
    put_told shape offers j c puts closes i ≡ told (put_events shape) (stored_after shape) (put_begin offers) put_answer (put_last closes) j c puts i
put_told_is shape offers j c [] closes i = grind arith
put_told_is shape offers j c (x ∷ puts) closes i = search (arith, put_told_is shape offers (suc j) (stored_after shape c x) puts closes (i - (put_events shape c x)))

-- what an event records of the puts, for any calls
abbrev PutsTell : Shape → (ℕ → List ℕ) → Puts → ℕ → List Put → List Put → List Event → Type 0
PutsTell shape offers calls = Told (put_events shape) (stored_after shape) (put_begin offers) put_answer (put_last calls.closes) (events_of_puts shape) 0 calls.puts

-- the program's events are those of the puts, and of the close
put_program_is : (shape : Shape) (calls : Puts) → events_in (put_program shape calls) ≡ events_of_puts shape calls.puts + 2 * length (close_phrase calls.closes)
put_program_is shape calls = omega (arith, length-append (put_phrases shape first_count calls.puts) (close_phrase calls.closes))

-- an event after all puts is one of the close
close_tells :
    (shape : Shape) (offers : ℕ → List ℕ) (calls : Puts) (i : ℕ) (before after : List Put) (told : List Event) (closes : Bool) → calls.closes ≡ closes →
    i < events_in (put_program shape calls) → after ≡ before → before ≡ calls.puts → events_of_puts shape before ≤ i → events_of_puts shape before ≡ events_of_puts shape calls.puts →
    told ≡ put_last closes (i - events_of_puts shape before) → PutTells shape offers calls i before after told
close_tells shape offers calls i before after told closes e l same all past whole is = grind (arith, put_program_is, place, first_told, last_told)

-- the same in terms of the puts
in_puts :
    (shape : Shape) (offers : ℕ → List ℕ) (calls : Puts) (i : ℕ) (before after : List Put) (told : List Event) → i < events_in (put_program shape calls) →
    PutsTell shape offers calls i before after told → PutTells shape offers calls i before after told
in_puts shape offers calls i before after told l h1 = grind (arith, put_program_is, close_tells, told)

pub puts-tell : PutsTellByOne
puts-tell shape offers calls i l =
    subst (PutTells shape offers calls i (puts_over shape first_count calls.puts i) (puts_over shape first_count calls.puts (suc i)))
    (sym (put_told_is shape offers 0 first_count calls.puts calls.closes i))
    (in_puts shape offers calls i _ _ _ l
    (tells_so (put_events shape) (stored_after shape) (put_begin offers) put_answer (put_last calls.closes) (events_of_puts shape) (put_long shape) 0 first_count calls.puts i
    (puts_total shape first_count)))

-- ---- takes

-- a take has at least two events
take_long : (shape : Shape) (c : Count) (x : Take) → 2 ≤ events_in (take_phrase shape c x)
take_long shape c x = grind (arith, length-append, length-scan)

end_long : (seen again : ℕ) → 2 ≤ events_in (end_phrase (Closed seen again))
end_long seen again = omega (arith, length-append (scan_phrase (row_read_by C) seen) (Read X true ∷ scan_phrase (row_read_by C) again), length-scan (row_read_by C) seen)

abbrev take_events : Shape → Count → Take → ℕ
take_events shape c x = events_in (take_phrase shape c x)

abbrev take_begin : (ℕ → ℕ) → ℕ → Event
take_begin wants j = TakeBegin (wants j)

-- what an event after all takes records, given their number
abbrev take_last : (ℕ → ℕ) → ℕ → End → ℕ → List Event
take_last wants j Open i = []
take_last wants j (Closed seen again) i = told_or_behind (events_in (end_phrase (Closed seen again))) (take_begin wants j) (TakeEnd Shut) i []

take_told_is :
    (shape : Shape) (wants : ℕ → ℕ) (j : ℕ) (c : Count) (takes : List Take) (end : End) (i : ℕ) →
    take_told shape wants j c takes end i ≡ told (take_events shape) (count_after shape) (take_begin wants) take_answer (take_last wants (j + length takes) end) j c takes i
take_told_is shape wants j c [] end i = grind arith
take_told_is shape wants j c (x ∷ takes) end i = grind (arith, take_told_is shape wants (suc j) (count_after shape c x) takes end (i - (take_events shape c x)))

-- what an event records of the takes, for any calls
abbrev TakesTell : Shape → (ℕ → ℕ) → Takes → ℕ → List Take → List Take → List Event → Type 0
TakesTell shape wants calls =
    Told (take_events shape) (count_after shape) (take_begin wants) take_answer (take_last wants (0 + length calls.takes) calls.end) (events_of_takes shape) 0 calls.takes

-- the program's events are those of the takes, and of the last that returns Closed
take_program_is : (shape : Shape) (calls : Takes) → events_in (take_program shape calls) ≡ events_of_takes shape calls.takes + events_in (end_phrase calls.end)
take_program_is shape calls = omega (arith, length-append (take_phrases shape first_count calls.takes) (end_phrase calls.end))

-- an event after all takes is one of that take
end_tells :
    (shape : Shape) (wants : ℕ → ℕ) (calls : Takes) (i : ℕ) (before after : List Take) (told : List Event) (end : End) → calls.end ≡ end →
    i < events_in (take_program shape calls) → after ≡ before → events_of_takes shape before ≤ i → events_of_takes shape before ≡ events_of_takes shape calls.takes →
    told ≡ take_last wants (length before) end (i - events_of_takes shape before) → TakeTells shape wants calls i before after told
end_tells shape wants calls i before after told end e l same past whole is = search (arith, take_program_is, place, end_long, first_told, between_told, last_told)

-- the same in terms of the takes
in_takes :
    (shape : Shape) (wants : ℕ → ℕ) (calls : Takes) (i : ℕ) (before after : List Take) (told : List Event) → i < events_in (take_program shape calls) →
    TakesTell shape wants calls i before after told → TakeTells shape wants calls i before after told
in_takes shape wants calls i before after told l h1 = grind (arith, take_program_is, end_tells, told)

pub takes-tell : TakesTellByOne
takes-tell shape wants calls i l =
    subst (TakeTells shape wants calls i (takes_over shape first_count calls.takes i) (takes_over shape first_count calls.takes (suc i)))
    (sym (take_told_is shape wants 0 first_count calls.takes calls.end i))
    (in_takes shape wants calls i _ _ _ l
    (tells_so (take_events shape) (count_after shape) (take_begin wants) take_answer (take_last wants (0 + length calls.takes) calls.end) (events_of_takes shape) (take_long shape) 0
    first_count calls.takes i (takes_total shape first_count)))
