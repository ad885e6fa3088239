-- What one of a side's own events records of its calls, by the calls that are over before it and with it.
use Rattle.std.specs.Prelude.{◌≡◌, ◌⊎◌, ℕ, suc, ◌<◌, true, List, [], ◌∷◌, ◌++◌, length}
use Rattle.queue_calls.specs.Calls as calls
use Rattle.queue_calls.specs.Calls.{PutBegin, CloseBegin, CloseEnd, TakeBegin, TakeEnd, Shut}
use Rattle.bits_core.specs.declared.shapes.Shape.{Shape}
use Rattle.ring_core.specs.Counts.{first_count}
use Rattle.ring_core.specs.Items.{events_in, Tells}
use Rattle.ring_core.specs.Over.{puts_over, takes_over}
use Rattle.ring_core.specs.Puts.{Put, Puts, put_phrases, put_program}
use Rattle.ring_core.specs.Recorded.{put_answer, put_told, take_answer, take_told}
use Rattle.ring_core.specs.Takes.{Take, Takes, take_phrases, take_program}

-- how many events puts have
abbrev pub events_of_puts : Shape → List Put → ℕ
events_of_puts shape puts = events_in (put_phrases shape first_count puts)

-- how many events takes have
abbrev pub events_of_takes : Shape → List Take → ℕ
events_of_takes shape takes = events_in (take_phrases shape first_count takes)

-- a call begins with the event: those over before it have all events before it
abbrev pub PutBegins : Shape → (ℕ → List ℕ) → Puts → (i : ℕ) → (before after : List Put) → List calls.Event → Type 0
PutBegins shape offers calls i before after told =
    (after ≡ before) × (i ≡ events_of_puts shape before) ×
    (((length before < length calls.puts) × (told ≡ PutBegin (offers (length before)) ∷ [])) ⊎
    ((before ≡ calls.puts) × (calls.closes ≡ true) × (told ≡ CloseBegin ∷ [])))

-- a put ends with it
abbrev pub PutEnds : Shape → (i : ℕ) → (before after : List Put) → List calls.Event → Type 0
PutEnds shape i before after told =
    (x : Put) × (after ≡ before ++ x ∷ []) × (events_of_puts shape before < i) × (suc i ≡ events_of_puts shape after) × (told ≡ put_answer x ∷ [])

-- the close ends with it
abbrev pub CloseEnds : Shape → Puts → (i : ℕ) → (before after : List Put) → List calls.Event → Type 0
CloseEnds shape calls i before after told =
    (after ≡ before) × (before ≡ calls.puts) × (calls.closes ≡ true) × (events_of_puts shape before < i) × (suc i ≡ events_in (put_program shape calls)) ×
    (told ≡ CloseEnd ∷ [])

-- a call continues with it
abbrev pub PutsGo : Shape → Puts → (i : ℕ) → (before after : List Put) → List calls.Event → Type 0
PutsGo shape calls i before after told =
    (after ≡ before) × (events_of_puts shape before < i) × (calls.closes ≡ true → suc i < events_in (put_program shape calls)) × (told ≡ [])

-- one of these
abbrev pub PutTells : Shape → (ℕ → List ℕ) → Puts → (i : ℕ) → (before after : List Put) → List calls.Event → Type 0
PutTells shape offers calls i before after told =
    PutBegins shape offers calls i before after told ⊎
    (PutEnds shape i before after told ⊎ (CloseEnds shape calls i before after told ⊎ PutsGo shape calls i before after told))

-- the law: what an event of the producer records
abbrev pub PutsTellByOne : Type 0
PutsTellByOne =
    (shape : Shape) (offers : ℕ → List ℕ) (calls : Puts) (i : ℕ) → i < events_in (put_program shape calls) →
    PutTells shape offers calls i (puts_over shape first_count calls.puts i) (puts_over shape first_count calls.puts (suc i))
    (put_told shape offers 0 first_count calls.puts calls.closes i)

-- the same for takes: a take begins with the event
abbrev pub TakeBegins : Shape → (ℕ → ℕ) → (i : ℕ) → (before after : List Take) → List calls.Event → Type 0
TakeBegins shape wants i before after told = (after ≡ before) × (i ≡ events_of_takes shape before) × (told ≡ TakeBegin (wants (length before)) ∷ [])

-- a take ends with it
abbrev pub TakeEnds : Shape → (i : ℕ) → (before after : List Take) → List calls.Event → Type 0
TakeEnds shape i before after told =
    (x : Take) × (after ≡ before ++ x ∷ []) × (events_of_takes shape before < i) × (suc i ≡ events_of_takes shape after) × (told ≡ take_answer x ∷ [])

-- the take that returns Closed ends with it
abbrev pub IsToldNow : Shape → Takes → (i : ℕ) → (before after : List Take) → List calls.Event → Type 0
IsToldNow shape calls i before after told =
    (after ≡ before) × Tells calls.end × (events_of_takes shape before < i) × (suc i ≡ events_in (take_program shape calls)) × (told ≡ TakeEnd Shut ∷ [])

-- a take continues with it
abbrev pub TakesGo : Shape → Takes → (i : ℕ) → (before after : List Take) → List calls.Event → Type 0
TakesGo shape calls i before after told =
    (after ≡ before) × (events_of_takes shape before < i) × (Tells calls.end → suc i < events_in (take_program shape calls)) × (told ≡ [])

-- one of these
abbrev pub TakeTells : Shape → (ℕ → ℕ) → Takes → (i : ℕ) → (before after : List Take) → List calls.Event → Type 0
TakeTells shape wants calls i before after told =
    TakeBegins shape wants i before after told ⊎
    (TakeEnds shape i before after told ⊎ (IsToldNow shape calls i before after told ⊎ TakesGo shape calls i before after told))

-- the law: what an event of the consumer records
abbrev pub TakesTellByOne : Type 0
TakesTellByOne =
    (shape : Shape) (wants : ℕ → ℕ) (calls : Takes) (i : ℕ) → i < events_in (take_program shape calls) →
    TakeTells shape wants calls i (takes_over shape first_count calls.takes i) (takes_over shape first_count calls.takes (suc i))
    (take_told shape wants 0 first_count calls.takes calls.end i)
