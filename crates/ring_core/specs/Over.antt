-- The calls of a side that are over.
use Rattle.std.specs.Prelude.{◌≡◌, ℕ, ◌+◌, ◌-◌, nat_le, List, [], ◌∷◌, length, if◌then◌else◌}
use Rattle.bits_core.specs.declared.events.Side.TheVariants.{P, C}
use Rattle.bits_core.specs.declared.events.Event.{Event}
use Rattle.bits_core.specs.declared.shapes.Shape.{Shape}
use Rattle.bits_core.specs.Made.{subhistory}
use Rattle.ring_core.specs.Counts.{Count, first_count}
use Rattle.ring_core.specs.Items.{events_in}
use Rattle.ring_core.specs.Puts.{Put, Stored, Full, stored_after, put_phrase, Puts, FollowsPuts}
use Rattle.ring_core.specs.Takes.{Take, Item, ItemAfterClose, Empty, count_after, take_phrase, Takes, FollowsTakes}

-- the first of some calls, as many as have ended within t events; each call's events depend on a state and result in the next
abbrev pub over : {S X : Type 0} → (S → X → ℕ) → (S → X → S) → S → List X → ℕ → List X
over events after s [] t = []
over events after s (x ∷ xs) t = if nat_le (events s x) t then x ∷ over events after (after s x) xs (t - events s x) else []

-- the puts that have ended in a history, by the calls that its producer follows
abbrev pub puts_over_in : Shape → List Event → Puts → List Put
puts_over_in shape h calls = over (λ c x. events_in (put_phrase shape c x)) (stored_after shape) first_count calls.puts (length (subhistory P h))

-- the same for takes
abbrev pub takes_over_in : Shape → List Event → Takes → List Take
takes_over_in shape h calls = over (λ c x. events_in (take_phrase shape c x)) (count_after shape) first_count calls.takes (length (subhistory C h))

-- the same for lists of puts within the first t events, starting at this count
abbrev pub puts_over : Shape → Count → List Put → ℕ → List Put
puts_over shape = over (λ c x. events_in (put_phrase shape c x)) (stored_after shape)

-- the same for takes, after k items
abbrev pub takes_over : Shape → Count → List Take → ℕ → List Take
takes_over shape = over (λ c x. events_in (take_phrase shape c x)) (count_after shape)

-- how many of these puts found the ring full
abbrev pub fulls : List Put → ℕ
fulls [] = 0
fulls (Stored seen items ∷ puts) = fulls puts
fulls (Full seen ∷ puts) = 1 + fulls puts

-- how many of these takes found the ring empty
abbrev pub empties : List Take → ℕ
empties [] = 0
empties (Item seen item ∷ takes) = empties takes
empties (ItemAfterClose seen again item ∷ takes) = empties takes
empties (Empty seen ∷ takes) = 1 + empties takes

-- they are determined by the history: whichever puts its events are read as, the puts that are over are the same
abbrev pub PutsOverAreRead : Type 0
PutsOverAreRead = (shape : Shape) (h : List Event) (a b : Puts) → FollowsPuts shape h a → FollowsPuts shape h b → puts_over_in shape h a ≡ puts_over_in shape h b

-- the same for takes
abbrev pub TakesOverAreRead : Type 0
TakesOverAreRead = (shape : Shape) (h : List Event) (a b : Takes) → FollowsTakes shape h a → FollowsTakes shape h b → takes_over_in shape h a ≡ takes_over_in shape h b
