-- What the page receives for a play by a near miss.
use Rattle.std.specs.Prelude.{◌≡◌, ◌⊎◌, ◌==◌, if◌then◌else◌, ℕ, Option, Some, None, List, [], length, map, take}
use Rattle.bits_core.specs.declared.events.Event.{Event}
use Rattle.near_misses.specs.Misses.{near_modulus}
use Rattle.near_misses.specs.NearPlays.{IsNearPlay}
use Rattle.near_misses.specs.declared.misses.NearMiss.{NearMiss}
use Rattle.near_misses.specs.declared.misses.NearMiss.TheVariants.{CountBeforeCell, NoSecondScan, SmallModulus, ClearsFirst, ClearsUpwards}
use Rattle.call_lines.specs.Lines.{word_of}
use Rattle.queue_calls.specs.Calls.{passed}
use Rattle.queue_calls.specs.Tellings.{line_of}
use Rattle.queue_calls.specs.Told.{event_by, reply_by}
use Rattle.queue_calls.specs.declared.events.CallEvent.{CallEvent}
use Rattle.queue_calls.specs.declared.events.CallEvent.TheVariants.{PutBegins, PutEnds, TakeBegins, TakeEnds}
use Rattle.queue_calls.specs.declared.hearings.Begun.TheVariants.{Nothing}
use Rattle.call_lines.specs.declared.lines.Word.{Word}
use Rattle.ring_script.specs.Content.{Content}
use Rattle.ring_script.specs.Script.{HeldFields, HoldsFields, IsContentOf, IsScript}
use Rattle.ring_page.specs.Audit.{AreMarksOf}
use Rattle.ring_page.specs.Play.{Fills, TellsRefused}
use Rattle.ring_page.specs.declared.marks.Mark.{Mark}
use Rattle.ring_page.specs.declared.near_plays.NearPlayed.{NearPlayed}
use Rattle.ring_page.specs.declared.near_plays.Telling.{Telling}
use Rattle.ring_page.specs.declared.plays.Played.{Played}

-- the near misses by their numbers
abbrev pub near_numbered : ℕ → Option NearMiss
near_numbered n =
    if n == 1 then Some CountBeforeCell else
    if n == 2 then Some NoSecondScan else
    if n == 3 then Some SmallModulus else
    if n == 4 then Some ClearsFirst else
    if n == 5 then Some ClearsUpwards else
    None

-- the number that an event of a call has besides its word
abbrev pub number_told : CallEvent ℕ ℕ → ℕ
number_told (PutBegins stored) = stored
number_told (PutEnds reply) = passed 0 (reply_by (λ count. count) reply)
number_told (TakeBegins wanted) = wanted
number_told (TakeEnds reply) = passed 0 (reply_by (λ taken. taken) reply)
number_told _ = 0

-- what it records: the word of its line, and the number
abbrev pub said_by : CallEvent ℕ ℕ → Option Word × ℕ
said_by event = (Some (line_of Nothing (event_by (λ stored. []) (λ taken. []) event)).word, number_told event)

-- and what numbers record
abbrev pub said_in : Telling → Option Word × ℕ
said_in telling = (word_of telling.word, telling.number)

-- the result of a play with these numbers of events, recorded calls and items taken, of a schedule of this many letters, whose counts wrap
-- at this modulus
abbrev pub near_played : (events tellings items letters modulus : ℕ) → NearPlayed
near_played events tellings items letters modulus =
    record { outcome = 0; number = 0; place = 0; shape_fault = 0; count = events; told = tellings; taken = items; all_letters = letters; modulus = modulus }

-- this is the result of the play of the script's first letters
pub record TellsNearLetters (miss : NearMiss) (script : Content) (letters : ℕ) (marks : List Mark) (tellings : List Telling) (items : List ℕ) (told : NearPlayed) : Type 0 where
  pub history : List Event
  pub calls : List (CallEvent ℕ ℕ)
  pub taken : List ℕ
  pub plays : IsNearPlay miss script (take letters script.letters) history calls taken
  pub are_marks : AreMarksOf history (length history) marks
  pub fills : map said_in (take (length calls) tellings) ≡ map said_by (take (length tellings) calls)
  pub fills_items : Fills taken items
  pub numbers : told ≡ near_played (length history) (length calls) (length taken) (length script.letters) (near_modulus miss script.shape)

-- the values represent a script, which is that of any bytes whose fields hold them, and this is the result of its play
pub record TellsNearPlayed (miss : NearMiss) (held : HeldFields) (letters : ℕ) (marks : List Mark) (tellings : List Telling) (items : List ℕ) (told : NearPlayed) : Type 0 where
  pub script : Content
  pub is_content : IsContentOf held script
  pub is_script : (bytes : List ℕ) → HoldsFields bytes held → IsScript bytes script
  pub is_play : TellsNearLetters miss script letters marks tellings items told

-- a fault, as `page_play` returns it
abbrev pub near_refused : Played → NearPlayed
near_refused told =
    record (near_played 0 0 0 0 0) { outcome = told.outcome; number = told.number; place = told.place; shape_fault = told.shape_fault }

-- the fault of the values, or of the page's room, is returned
abbrev pub TellsNearRefused : HeldFields → ℕ → NearPlayed → Type 0
TellsNearRefused held letters told = (fault : Played) × TellsRefused held letters fault × (told ≡ near_refused fault)

-- there is no near miss with this number
abbrev pub no_near_miss : NearPlayed
no_near_miss = record (near_played 0 0 0 0 0) { outcome = 3 }

-- the result for the values of a script's fields and a near miss
abbrev pub TellsNearPlay : Option NearMiss → HeldFields → ℕ → List Mark → List Telling → List ℕ → NearPlayed → Type 0
TellsNearPlay None held letters marks tellings items told = told ≡ no_near_miss
TellsNearPlay (Some miss) held letters marks tellings items told = TellsNearPlayed miss held letters marks tellings items told ⊎ TellsNearRefused held letters told
