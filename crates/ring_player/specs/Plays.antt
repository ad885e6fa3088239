-- When a history is the play of a script by a list of letters.
use Rattle.std.specs.Prelude.{◌≡◌, ◌⊎◌, ℕ, suc, ◌-◌, ◌<◌, ◌%◌, min, Bool, true, false, List, [], ◌∷◌, ◌++◌, length, take, drop, slice_index_or}
use Rattle.bits_core.specs.declared.events.Side.{Side}
use Rattle.bits_core.specs.declared.events.Side.TheVariants.{P, C}
use Rattle.bits_core.specs.declared.events.Bit.{Bit}
use Rattle.bits_core.specs.declared.events.Event.{Event}
use Rattle.bits_core.specs.Intervals.{HasOverlap, IsRead}
use Rattle.bits_core.specs.Lawful.{IsLawful}
use Rattle.bits_core.specs.Made.{events_of, subhistory, IsPrefix}
use Rattle.bits_core.specs.Shape.{batch_of, take_batch_of}
use Rattle.ring_core.specs.ConsumerCalls.{IsTakeOf}
use Rattle.ring_core.specs.Items.{Tells}
use Rattle.ring_core.specs.ProducerCalls.{IsPutOf}
use Rattle.ring_core.specs.Puts.{Put, Puts, number_after, stored_in, put_program, ArePuts}
use Rattle.ring_core.specs.Takes.{Take, Takes, taken_after, taken_in, take_program, AreTakes}
use Rattle.ring_script.specs.Content.{Content}

-- the items that the world offers when n are stored: the next ones, as many as a batch may have
abbrev pub offered : Content → ℕ → List ℕ
offered script n = take (batch_of script.shape) (drop n script.items)

-- puts, with n items stored before them, each of which is an attempt at the next items
abbrev pub AreAttempts : Content → ℕ → List Put → Type 0
AreAttempts script n [] = Unit {0}
AreAttempts script n (x ∷ puts) = (n < length script.items) × IsPutOf script.shape n (offered script n) x × AreAttempts script (number_after n x) puts

-- the puts are attempts at the script's items, and there is a close only if the script closes, after all items were stored
pub record ArePutsOf (script : Content) (calls : Puts) : Type 0 where
  pub are : ArePuts script.shape 0 calls.puts
  pub attempts : AreAttempts script 0 calls.puts
  pub closes : calls.closes ≡ true → (script.closes ≡ true) × (stored_in 0 calls.puts ≡ length script.items)

-- takes, after k items, each of which asks for as many items as one count write may count, or as are left to take, and at least one is left
abbrev pub AreWantedBy : Content → ℕ → List Take → Type 0
AreWantedBy script k [] = Unit {0}
AreWantedBy script k (x ∷ takes) =
    (k < script.takes) × IsTakeOf script.shape k (min (take_batch_of script.shape) (script.takes - k)) x × AreWantedBy script (taken_after k x) takes

-- these events of a side are a prefix of those of calls that the script requests; a take that returns Closed asked for at least one item
abbrev pub IsProgram : Content → Side → List Event → Type 0
IsProgram script P events = (calls : Puts) × ArePutsOf script calls × IsPrefix events (events_of P (put_program script.shape calls))
IsProgram script C events =
    (calls : Takes) × (AreTakes script.shape 0 calls.takes calls.end × AreWantedBy script 0 calls.takes × (Tells calls.end → taken_in 0 calls.takes < script.takes)) ×
    IsPrefix events (events_of C (take_program script.shape calls))

-- they are those of complete calls: of puts that store all items, with the close if the script closes; or of takes that take
-- as many items as the script asks for, or the last of which returns Closed
abbrev pub IsDoneAfter : Content → Side → List Event → Type 0
IsDoneAfter script P events = (calls : Puts) × ArePuts script.shape 0 calls.puts × (events ≡ events_of P (put_program script.shape calls)) ×
    (stored_in 0 calls.puts ≡ length script.items) × (calls.closes ≡ script.closes)
IsDoneAfter script C events = (calls : Takes) × AreTakes script.shape 0 calls.takes calls.end × (events ≡ events_of C (take_program script.shape calls)) ×
    ((taken_in 0 calls.takes ≡ script.takes) ⊎ Tells calls.end)

-- a side is done in a history
abbrev pub IsDone : Content → Side → List Event → Type 0
IsDone script side h = IsDoneAfter script side (subhistory side h)

-- the sides of the later events are, in order, the letters without those whose side is done in the history so far
abbrev pub AreMoves : Content → List Side → (past later : List Event) → Type 0
AreMoves script [] past [] = Unit {0}
AreMoves script [] past (e ∷ es) = ⊥
AreMoves script (letter ∷ letters) past later =
    (IsDone script letter past × AreMoves script letters past later) ⊎
    ((¬ IsDone script letter past) × ((e : Event) × (es : List Event) × (later ≡ e ∷ es) × (e.side ≡ letter) × AreMoves script letters (past ++ e ∷ []) es))

-- at a place a read that a write overlaps ends with this answer
abbrev pub EndsOverlapped : List Event → ℕ → Bool → Type 0
EndsOverlapped h place v = (s : Side) × (b : Bit) × (start : ℕ) × IsRead h s b start place v × HasOverlap h b start place

-- each place has a number: how many of these reads have ended before it
pub record AreNumbered (h : List Event) (number : ℕ → ℕ) : Type 0 where
  pub first : number 0 ≡ 0
  pub next : (place : ℕ) (v : Bool) → EndsOverlapped h place v → number (suc place) ≡ suc (number place)
  pub same : (place : ℕ) → ((v : Bool) → ¬ EndsOverlapped h place v) → number (suc place) ≡ number place

-- each of them has the oracle's next answer: its characters in turn, starting again after the last, or 0 if it has none
unfoldable pub AreInTurn : List Bool → List Event → Type 0
AreInTurn oracle h = (number : ℕ → ℕ) × AreNumbered h number ×
    ((place : ℕ) (v : Bool) → EndsOverlapped h place v → v ≡ slice_index_or oracle (number place % length oracle) false)

-- this many of them have ended
unfoldable pub HasFlickers : List Event → ℕ → Type 0
HasFlickers h count = (number : ℕ → ℕ) × AreNumbered h number × (count ≡ number (length h))

-- a history that plays the script, whatever letters made it
pub record IsPlayed (script : Content) (h : List Event) : Type 0 where
  pub lawful : IsLawful script.shape h
  pub puts : IsProgram script P (subhistory P h)
  pub takes : IsProgram script C (subhistory C h)
  pub answers : AreInTurn script.oracle h

-- a history is the play of the script by these letters
pub record Plays (script : Content) (letters : List Side) (h : List Event) : Type 0 where
  pub played : IsPlayed script h
  pub moves : AreMoves script letters [] h

-- the sides of the events
abbrev pub event_sides : List Event → List Side
event_sides [] = []
event_sides (e ∷ es) = e.side ∷ event_sides es
