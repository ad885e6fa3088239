-- What the page receives for a play.
use Rattle.std.specs.Prelude.{◌≡◌, ◌⊎◌, ◌↔◌, ◌<◌, min, not, nat_eq, ℕ, List, length, take}
use Rattle.bits_core.specs.Faults.{shape_fault_number}
use Rattle.bits_core.specs.declared.events.Event.{Event}
use Rattle.ring_core.specs.Items.{ToldIn, items_put_in, items_taken_in}
use Rattle.ring_core.specs.Over.{empties, fulls, puts_over_in, takes_over_in}
use Rattle.ring_core.specs.Puts.{FollowsPuts, Puts}
use Rattle.ring_core.specs.Takes.{FollowsTakes, Takes}
use Rattle.ring_player.specs.Headline.{IsPlayOf}
use Rattle.ring_player.specs.Plays.{HasFlickers}
use Rattle.ring_script.specs.Faults.{IsScriptFault, script_fault_number}
use Rattle.ring_script.specs.Content.{Content}
use Rattle.ring_script.specs.Script.{HeldFields, HoldsFields, IsContentOf, IsScript, held_fields}
use Rattle.ring_script.specs.declared.faults.ScriptFault.{ScriptFault}
use Rattle.ring_script.specs.declared.faults.ScriptFault.TheVariants as fault
use Rattle.ring_script.specs.Schedule.{run_count}
use Rattle.ring_page.specs.Audit.{AreMarksOf}
use Rattle.ring_page.specs.declared.audits.TheConstants.{EVENT_ROOM}
use Rattle.ring_page.specs.declared.plays.TheConstants.{ANSWER_ROOM, RUN_ROOM}
use Rattle.ring_page.specs.declared.marks.Mark.{Mark}
use Rattle.ring_page.specs.declared.plays.Asked.{Asked}
use Rattle.ring_page.specs.declared.plays.Played.{Played}

-- the values of a script's fields that the page requests
abbrev pub fields_of : Asked → List ℕ → List ℕ → List ℕ → HeldFields
fields_of asked items schedule oracle =
    held_fields asked.capacity asked.modulus asked.width items asked.takes (not (nat_eq asked.closes 0)) schedule oracle asked.batch asked.take_batch

-- the list is at the front of the room, as much of it as there is room for
abbrev pub Fills : List ℕ → List ℕ → Type 0
Fills list room = take (length list) room ≡ take (length room) list

-- the numbers of the report on a history
pub record TellsReport (script : Content) (history : List Event) (put taken : List ℕ) (told : Played) : Type 0 where
  pub count : told.count ≡ length history
  pub put_is : (puts : Puts) → FollowsPuts script.shape history puts → Fills (items_put_in script.shape history puts) put × (told.put ≡ length (items_put_in script.shape history puts))
  pub taken_is : (takes : Takes) → FollowsTakes script.shape history takes → Fills (items_taken_in script.shape history takes) taken × (told.taken ≡ length (items_taken_in script.shape history takes))
  pub told_is : (takes : Takes) → FollowsTakes script.shape history takes → (told.told ≡ 1) ↔ ToldIn script.shape history takes
  pub full_is : (puts : Puts) → FollowsPuts script.shape history puts → told.full ≡ fulls (puts_over_in script.shape history puts)
  pub empty_is : (takes : Takes) → FollowsTakes script.shape history takes → told.empty ≡ empties (takes_over_in script.shape history takes)
  pub flickers_is : HasFlickers history told.flickers
  pub all_letters_is : told.all_letters ≡ length script.letters

-- no fault is returned
pub record TellsNoFault (told : Played) : Type 0 where
  pub outcome : told.outcome ≡ 0
  pub number : told.number ≡ 0
  pub place : told.place ≡ 0
  pub shape_fault : told.shape_fault ≡ 0

-- this is the result of the play of the script's first letters
pub record TellsFirstLetters (script : Content) (letters : ℕ) (marks : List Mark) (put taken : List ℕ) (told : Played) : Type 0 where
  pub history : List Event
  pub no_fault : TellsNoFault told
  pub plays : IsPlayOf script (take letters script.letters) history
  pub are_marks : AreMarksOf history (length history) marks
  pub reports : TellsReport script history put taken told

-- the place of a fault; a number that it does not use is 0
abbrev pub TellsFaultPlace : ScriptFault → Played → Type 0
TellsFaultPlace (fault.Shape refusal) told = (told.shape_fault ≡ shape_fault_number refusal) × (told.place ≡ 0)
TellsFaultPlace (fault.ItemTooWide place) told = (told.shape_fault ≡ 0) × (told.place ≡ place)
TellsFaultPlace (fault.BadSchedule place) told = (told.shape_fault ≡ 0) × (told.place ≡ place)
TellsFaultPlace (fault.BadOracle place) told = (told.shape_fault ≡ 0) × (told.place ≡ place)
TellsFaultPlace _ told = (told.shape_fault ≡ 0) × (told.place ≡ 0)

-- nothing is reported
pub record ReportsNothing (told : Played) : Type 0 where
  pub no_count : told.count ≡ 0
  pub no_put : told.put ≡ 0
  pub no_taken : told.taken ≡ 0
  pub no_told : told.told ≡ 0
  pub no_full : told.full ≡ 0
  pub no_empty : told.empty ≡ 0
  pub no_flickers : told.flickers ≡ 0
  pub no_all_letters : told.all_letters ≡ 0

-- the fault, as numbers
pub record TellsPlayFault (x : ScriptFault) (told : Played) : Type 0 where
  pub outcome : told.outcome ≡ 2
  pub number : told.number ≡ script_fault_number x
  pub place : TellsFaultPlace x told
  pub nothing : ReportsNothing told

-- the values represent a script, which is that of any bytes whose fields hold them, and this is the result of its play
pub record TellsPlayed (held : HeldFields) (letters : ℕ) (marks : List Mark) (put taken : List ℕ) (told : Played) : Type 0 where
  pub script : Content
  pub is_content : IsContentOf held script
  pub is_script : (bytes : List ℕ) → HoldsFields bytes held → IsScript bytes script
  pub is_play : TellsFirstLetters script letters marks put taken told

-- the page has no room: for the runs of the schedule, for the answers of the oracle, or for an event of each letter that is played
abbrev pub HasNoRoom : HeldFields → ℕ → Type 0
HasNoRoom held letters =
    (RUN_ROOM < run_count held.schedule) ⊎ (ANSWER_ROOM < length held.oracle) ⊎ ((script : Content) × IsContentOf held script × (EVENT_ROOM < min letters (length script.letters)))

-- the values have this fault, which is that of all bytes whose fields hold them; or the page has no room
pub record TellsRefused (held : HeldFields) (letters : ℕ) (told : Played) : Type 0 where
  pub why : ScriptFault
  pub cause : ((why ≡ fault.OutOfMemory) × HasNoRoom held letters) ⊎ ((bytes : List ℕ) → HoldsFields bytes held → IsScriptFault bytes why)
  pub tells : TellsPlayFault why told

-- the result for the values of a script's fields
abbrev pub TellsPlay : HeldFields → ℕ → List Mark → List ℕ → List ℕ → Played → Type 0
TellsPlay held letters marks put taken told = TellsPlayed held letters marks put taken told ⊎ TellsRefused held letters told
