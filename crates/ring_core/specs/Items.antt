-- What was put and taken, and whether a take returned Closed, among the first events of a side's calls.
use Rattle.std.specs.Prelude.{◌≡◌, ℕ, ◌-◌, ◌*◌, ◌≤◌, nat_lt, nat_le, List, [], ◌∷◌, ◌++◌, length, if◌then◌else◌}
use Rattle.bits_core.specs.declared.events.Side.TheVariants.{P, C}
use Rattle.bits_core.specs.declared.events.Event.{Event}
use Rattle.bits_core.specs.declared.shapes.Shape.{Shape}
use Rattle.bits_core.specs.Made.{Made, subhistory}
use Rattle.ring_core.specs.Counts.{Count, first_count}
use Rattle.ring_core.specs.Puts.{Put, Stored, Full, stored_after, accesses_before_count, put_phrase, Puts, FollowsPuts}
use Rattle.ring_core.specs.Takes.{Take, Item, ItemAfterClose, Empty, End, Open, Closed, count_after, accesses_before_word, words_read, take_phrase, take_program, Takes, FollowsTakes}

-- how many events these accesses have
abbrev pub events_in : List Made → ℕ
events_in made = 2 * length made

-- What calls contribute within the first t events of their side: each contributes some items within its own first events,
-- has the events of a phrase that depends on a state, and results in another state.
abbrev pub gathered : {S X : Type 0} → (S → X → ℕ → List ℕ) → (S → X → List Made) → (S → X → S) → S → List X → ℕ → List ℕ
gathered gives phrase after s [] t = []
gathered gives phrase after s (x ∷ xs) t = gives s x t ++ gathered gives phrase after (after s x) xs (t - events_in (phrase s x))

-- the items of a put, once its count write has begun
abbrev pub put_begun : Shape → Count → Put → ℕ → List ℕ
put_begun shape c (Stored seen items) t = (if nat_lt (events_in (accesses_before_count shape c.number seen items)) t then items else [])
put_begun shape c (Full seen) t = []

-- the items of the puts whose count write has begun within the first t events, starting at this count
abbrev pub items_put : Shape → Count → List Put → ℕ → List ℕ
items_put shape = gathered (put_begun shape) (put_phrase shape) (stored_after shape)

-- the items of all these puts
abbrev pub all_put : List Put → List ℕ
all_put [] = []
all_put (Stored seen items ∷ puts) = items ++ all_put puts
all_put (Full seen ∷ puts) = all_put puts

-- the items that a take takes
abbrev pub taken_of : Take → List ℕ
taken_of (Item seen items) = items
taken_of (ItemAfterClose seen again items) = items
taken_of (Empty seen) = []

-- the items of all these takes
abbrev pub all_taken : List Take → List ℕ
all_taken [] = []
all_taken (x ∷ takes) = taken_of x ++ all_taken takes

-- the items of a take, once it has ended
abbrev pub take_ended : Shape → Count → Take → ℕ → List ℕ
take_ended shape c (Item seen items) t = (if nat_le (events_in (take_phrase shape c (Item seen items))) t then items else [])
take_ended shape c (ItemAfterClose seen again items) t = (if nat_le (events_in (take_phrase shape c (ItemAfterClose seen again items))) t then items else [])
take_ended shape c (Empty seen) t = []

-- the items of a take, once its count write has begun
abbrev pub take_begun : Shape → Count → Take → ℕ → List ℕ
take_begun shape c (Item seen items) t = (if nat_lt (events_in (accesses_before_word (Item seen items) ++ words_read shape c.number items)) t then items else [])
take_begun shape c (ItemAfterClose seen again items) t =
    (if nat_lt (events_in (accesses_before_word (ItemAfterClose seen again items) ++ words_read shape c.number items)) t then items else [])
take_begun shape c (Empty seen) t = []

-- the items of the takes that have ended within the first t events, starting at this count
abbrev pub items_taken : Shape → Count → List Take → ℕ → List ℕ
items_taken shape = gathered (take_ended shape) (take_phrase shape) (count_after shape)

-- the items of the puts that have ended within the first t events, starting at this count
abbrev pub items_ended : Shape → Count → List Put → ℕ → List ℕ
items_ended shape = gathered (λ c x t. if nat_le (events_in (put_phrase shape c x)) t then all_put (x ∷ []) else []) (put_phrase shape) (stored_after shape)

-- how many items are counted by the producer's count writes that have begun within its first t events
abbrev pub puts_begun : Shape → Puts → ℕ → ℕ
puts_begun shape calls t = length (items_put shape first_count calls.puts t)

-- and by the puts that have ended
abbrev pub puts_ended : Shape → Puts → ℕ → ℕ
puts_ended shape calls t = length (items_ended shape first_count calls.puts t)

-- the same for takes: by the count writes that have begun
abbrev pub takes_begun : Shape → Takes → ℕ → ℕ
takes_begun shape calls t = length (gathered (take_begun shape) (take_phrase shape) (count_after shape) first_count calls.takes t)

-- and by the takes that have ended
abbrev pub takes_ended : Shape → Takes → ℕ → ℕ
takes_ended shape calls t = length (items_taken shape first_count calls.takes t)

-- ---- Closed

-- the last of the takes returns Closed
abbrev pub Tells : End → Type 0
Tells Open = ⊥
Tells (Closed seen again) = Unit {0}

-- within the first t events the takes have ended, the last returning Closed
abbrev pub IsTold : Shape → Takes → ℕ → Type 0
IsTold shape calls t = Tells calls.end × (events_in (take_program shape calls) ≤ t)

-- the items put in a history, by the calls that its producer follows
abbrev pub items_put_in : Shape → List Event → Puts → List ℕ
items_put_in shape h calls = items_put shape first_count calls.puts (length (subhistory P h))

-- the items taken in a history, by the calls that its consumer follows
abbrev pub items_taken_in : Shape → List Event → Takes → List ℕ
items_taken_in shape h calls = items_taken shape first_count calls.takes (length (subhistory C h))

-- whether a take has returned Closed in a history, by these calls
abbrev pub ToldIn : Shape → List Event → Takes → Type 0
ToldIn shape h calls = IsTold shape calls (length (subhistory C h))

-- the items put are determined by the history: whichever calls its events are read as, they are the same
abbrev pub ItemsAreRead : Type 0
ItemsAreRead = (shape : Shape) (h : List Event) (a b : Puts) → FollowsPuts shape h a → FollowsPuts shape h b → items_put_in shape h a ≡ items_put_in shape h b

-- and so are the items taken, and whether a take has returned Closed
abbrev pub TakenAreRead : Type 0
TakenAreRead =
    (shape : Shape) (h : List Event) (a b : Takes) → FollowsTakes shape h a → FollowsTakes shape h b →
    (items_taken_in shape h a ≡ items_taken_in shape h b) × (ToldIn shape h a → ToldIn shape h b)
