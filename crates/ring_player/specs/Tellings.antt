-- The calls of a play, as a recorder would record them.
use Rattle.std.specs.Prelude.{◌≡◌, ◌↔◌, ℕ, suc, ◌<◌, ◌≤◌, Bool, true, Option, Some, None, List, [], ◌∷◌, length, map, take, drop}
use Rattle.bits_core.specs.declared.events.Event.{Event}
use Rattle.bits_core.specs.declared.events.Side.TheVariants.{P, C}
use Rattle.bits_core.specs.Made.{subhistory, IsPrefix}
use Rattle.bits_core.specs.Shape.{capacity_of}
use Rattle.queue_calls.specs.Calls as calls
use Rattle.queue_calls.specs.Calls.{IsLinearizable}
use Rattle.queue_calls.specs.Queue.{exactly}
use Rattle.queue_calls.specs.Told.{event_by}
use Rattle.queue_calls.specs.declared.events.CallEvent.{CallEvent}
use Rattle.ring_core.specs.Counts.{first_count}
use Rattle.ring_core.specs.Items.{all_taken, events_in, IsTold}
use Rattle.ring_core.specs.Over.{empties, fulls, puts_over, takes_over}
use Rattle.ring_core.specs.Puts.{FollowsPuts, Puts, put_program, stored_in}
use Rattle.ring_core.specs.Recorded.{put_told, recorded, take_told}
use Rattle.ring_core.specs.RecordedByOne.{events_of_puts, events_of_takes}
use Rattle.ring_core.specs.Takes.{AreTakes, FollowsTakes, Takes, taken_in, take_program}
use Rattle.ring_player.specs.Actors.{PutTally}
use Rattle.ring_player.specs.Plays.{ArePutsOf, offered}
use Rattle.ring_player.specs.Wants.{wanted_at}
use Rattle.ring_player.specs.declared.tellings.PutStage.{PutStage}
use Rattle.ring_player.specs.declared.tellings.PutStage.TheVariants as put
use Rattle.ring_player.specs.declared.tellings.TakenItems.{TakenItems}
use Rattle.ring_player.specs.declared.tellings.TakeStage.{TakeStage}
use Rattle.ring_player.specs.declared.tellings.TakeStage.TheVariants as taking
use Rattle.ring_script.specs.Content.{Content}

-- a reading of a history as calls that the script requests
pub record IsReadingAsked (script : Content) (h : List Event) (puts : Puts) (takes : Takes) : Type 0 where
  pub asked : ArePutsOf script puts
  pub puts_follow : FollowsPuts script.shape h puts
  pub takes_follow : FollowsTakes script.shape h takes

-- what the world offers to each of these puts, by its number: the next items after those that the earlier puts stored
abbrev pub offers_of : Content → Puts → ℕ → List ℕ
offers_of script puts j = offered script (stored_in 0 (take j puts.puts))

-- how many items the world asks for with each of these takes, by its number: as many as it asks for after those that the earlier takes took
abbrev pub wants_of : Content → Takes → ℕ → ℕ
wants_of script takes j = wanted_at script (taken_in 0 (take j takes.takes))

-- the events are the recorded calls of the history, whichever calls it is read as
abbrev pub TellsCalls : Content → List Event → List calls.Event → Type 0
TellsCalls script h events = (puts : Puts) (takes : Takes) → IsReadingAsked script h puts takes → events ≡ recorded script.shape (offers_of script puts) (wants_of script takes) h puts takes

-- the items that a take took: `count` of the script's, after `before` taken earlier
abbrev pub taken_items : Content → TakenItems → List ℕ
taken_items script taken = take taken.count (drop taken.before script.items)

-- what is recorded, as an event of calls: a put is of the next items after those stored, as many as a batch has
abbrev pub event_of : Content → CallEvent ℕ TakenItems → calls.Event
event_of script told = event_by (offered script) (taken_items script) told

-- these events of calls
abbrev pub call_events : Content → List (CallEvent ℕ TakenItems) → List calls.Event
call_events script told = map (event_of script) told

-- what is recorded of a play is the recording of its calls, and a linearizable history of a queue of the ring's capacity
pub record RecordsPlay (script : Content) (h : List Event) (told : List (CallEvent ℕ TakenItems)) : Type 0 where
  pub tells : TellsCalls script h (call_events script told)
  pub linearizable : IsLinearizable (exactly (capacity_of script.shape)) (call_events script told)

-- ---- the stage of a side in its calls, after i of its own events

-- between two calls; in a put, with one to come; in the close; after it
abbrev pub IsPutStage : PutStage → Content → Puts → ℕ → Type 0
IsPutStage put.Between script puts i = events_of_puts script.shape (puts_over script.shape first_count puts.puts i) ≡ i
IsPutStage put.Putting script puts i =
    (events_of_puts script.shape (puts_over script.shape first_count puts.puts i) < i) ×
    (length (puts_over script.shape first_count puts.puts i) < length puts.puts)
IsPutStage put.Closing script puts i =
    (puts_over script.shape first_count puts.puts i ≡ puts.puts) × (puts.closes ≡ true) × (i ≡ suc (events_of_puts script.shape puts.puts))
IsPutStage put.Closed script puts i = events_in (put_program script.shape puts) ≤ i

-- the same for the consumer: between two calls; in a take; after Closed
abbrev pub IsTakeStage : TakeStage → Content → Takes → ℕ → Type 0
IsTakeStage taking.Between script takes i = events_of_takes script.shape (takes_over script.shape first_count takes.takes i) ≡ i
IsTakeStage taking.Taking script takes i = events_of_takes script.shape (takes_over script.shape first_count takes.takes i) < i
IsTakeStage taking.Told script takes i = events_in (take_program script.shape takes) ≤ i

-- whichever calls the history is read as
abbrev pub AreAt : PutStage → TakeStage → Content → List Event → Type 0
AreAt p t script h =
    (puts : Puts) (takes : Takes) → IsReadingAsked script h puts takes → IsPutStage p script puts (length (subhistory P h)) × IsTakeStage t script takes (length (subhistory C h))

-- ---- one more event

-- what an option records
abbrev pub told_in : Content → Option (CallEvent ℕ TakenItems) → List calls.Event
told_in script None = []
told_in script (Some told) = event_of script told ∷ []

-- the tally is that of the puts that are over within i of the side's own events: the items they stored, and how many found the ring full
abbrev pub IsPutTally : Content → Puts → ℕ → PutTally → Type 0
IsPutTally script puts i kept =
    (kept.stored ≡ stored_in 0 (puts_over script.shape first_count puts.puts i)) × (kept.full ≡ fulls (puts_over script.shape first_count puts.puts i))

-- the list of an option
abbrev pub listed : {E : Type 0} → Option E → List E
listed None = []
listed (Some told) = told ∷ []

-- what an event of the producer records, by its stage and by the puts that are over before it and with it
abbrev pub SaysPut : PutStage → (items : ℕ) → (before now : PutTally) → PutStage → Option (CallEvent ℕ TakenItems) → Type 0
SaysPut stage items before now next told =
    (script : Content) (puts : Puts) (i : ℕ) → ArePutsOf script puts → items ≡ length script.items → i < events_in (put_program script.shape puts) →
    IsPutStage stage script puts i → IsPutTally script puts i before → IsPutTally script puts (suc i) now →
    (told_in script told ≡ put_told script.shape (offers_of script puts) 0 first_count puts.puts puts.closes i) × IsPutStage next script puts (suc i)

-- the tally of the takes that are over within i of the consumer's own events: the items they took, how many of them found the ring empty,
-- and whether one returned Closed
pub record TakeTally : Type 0 where
  pub taken : ℕ
  pub empty : ℕ
  pub told : Bool

-- the takes that are over within i of the consumer's own events have this tally
abbrev pub IsTakeTally : Content → Takes → ℕ → TakeTally → Type 0
IsTakeTally script takes i kept =
    (kept.taken ≡ length (all_taken (takes_over script.shape first_count takes.takes i))) ×
    (kept.empty ≡ empties (takes_over script.shape first_count takes.takes i)) × ((kept.told ≡ true) ↔ IsTold script.shape takes i)

-- what an event of the consumer records, if the takes over with it took the script's first items; if it begins a take, that asks for
-- this many items
abbrev pub SaysTake : TakeStage → (wanted : ℕ) → (before now : TakeTally) → TakeStage → Option (CallEvent ℕ TakenItems) → Type 0
SaysTake stage wanted before now next told =
    (script : Content) (takes : Takes) (i : ℕ) → wanted ≡ wanted_at script before.taken → i < events_in (take_program script.shape takes) →
    AreTakes script.shape 0 takes.takes takes.end → IsPrefix (all_taken (takes_over script.shape first_count takes.takes (suc i))) script.items →
    IsTakeStage stage script takes i → IsTakeTally script takes i before → IsTakeTally script takes (suc i) now →
    (told_in script told ≡ take_told script.shape (wants_of script takes) 0 first_count takes.takes takes.end i) × IsTakeStage next script takes (suc i)
