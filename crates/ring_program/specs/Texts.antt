-- The texts of the answers.
use Rattle.std.specs.Prelude.{ℕ, ◌+◌, ◌*◌, ◌/◌, ◌^◌, Bool, true, false, ◌&&◌, List, [], ◌∷◌, ◌++◌, Option, Some, None, codes, decimal, drop, length, take, Vec, nat_lt, if◌then◌else◌, option_and_then}
use Rattle.std.specs.List.{flat_map}
use Rattle.bits_core.specs.Faults.{kind_words}
use Rattle.bits_core.specs.declared.audits.Verdict.{Verdict}
use Rattle.bits_core.specs.declared.audits.Verdict.TheVariants as bits
use Rattle.bits_core.specs.declared.faults.Kind.{Kind}
use Rattle.bits_core.specs.declared.events.Event.{Event}
use Rattle.bits_core.specs.Shape.{capacity_of}
use Rattle.queue_calls.specs.Calls as queue
use Rattle.call_causes.specs.Causes.{cause_words}
use Rattle.queue_calls.specs.Recordings.{line, lines_text}
use Rattle.queue_calls.specs.Tellings.{lines_of}
use Rattle.queue_calls.specs.Told.{event_by}
use Rattle.call_lines.specs.declared.lines.Word.TheVariants as word
use Rattle.queue_calls.specs.declared.hearings.Begun.TheVariants as begun
use Rattle.queue_calls.specs.declared.recordings.CallsFinding.{CallsFinding}
use Rattle.queue_calls.specs.declared.recordings.CallsFinding.TheVariants as calls
use Rattle.queue_calls.specs.declared.reports.CallsReport as calls_report
use Rattle.ring_audit.specs.Audit.{Statement, Lawful, Fault}
use Rattle.ring_player.specs.Plays.{offered}
use Rattle.queue_calls.specs.declared.events.CallEvent.{CallEvent}
use Rattle.queue_calls.specs.declared.events.CallEvent.TheVariants.{TakeEnds}
use Rattle.queue_calls.specs.declared.events.Reply.TheVariants.{Passed}
use Rattle.ring_player.specs.declared.tellings.TakenItems.{TakenItems}
use Rattle.ring_player.specs.declared.worlds.Report.{Report}
use Rattle.ring_script.specs.Content.{Content}

-- a fault in one line; the event at place i, from 0, is on line i + 2 of its trace
abbrev pub fault_line : ℕ → Kind → List ℕ
fault_line place kind = codes "fault: line " ++ decimal (place + 2) ++ codes ": " ++ kind_words kind ++ 10 ∷ []

-- the line of a lawful history
abbrev pub lawful_line : List ℕ
lawful_line = codes "lawful\n"

-- a verdict in one line
abbrev pub verdict_text_of : Verdict → List ℕ
verdict_text_of bits.Lawful = lawful_line
verdict_text_of (bits.Fault place kind) = fault_line place kind

-- ---- lines

-- a number after a space
abbrev pub number_text : ℕ → List ℕ
number_text n = codes " " ++ decimal n

-- a line of a word and a number
abbrev pub count_line : List ℕ → ℕ → List ℕ
count_line word n = word ++ (number_text n ++ codes "\n")

-- a line of a word and the items of a list, each after a space
abbrev pub list_line : List ℕ → List ℕ → List ℕ
list_line word items = word ++ (flat_map number_text items ++ codes "\n")

-- the line that says whether a take returned Closed
abbrev pub told_line : Bool → List ℕ
told_line true = codes "told yes\n"
told_line false = codes "told no\n"

-- ---- the text of a finding

-- the items put and taken, and whether a take returned Closed
abbrev pub lists_text_of : List ℕ → List ℕ → Bool → List ℕ
lists_text_of put taken told = lawful_line ++ (list_line (codes "put") put ++ (list_line (codes "taken") taken ++ told_line told))

-- the text of the finding on a history
abbrev pub audit_text_of : Statement → List ℕ
audit_text_of (Lawful put taken told) = lists_text_of put taken told
audit_text_of (Fault place kind) = fault_line place kind

-- ---- the text of a finding of recorded calls

-- what a recording of a linearizable history has reached
abbrev pub calls_report_text_of : calls_report.CallsReport → List ℕ
calls_report_text_of r = lawful_line ++ (count_line (codes "calls") r.calls ++ (count_line (codes "stored") r.stored
    ++ (count_line (codes "taken") r.taken ++ (count_line (codes "full") r.full ++ (count_line (codes "empty") r.empty
    ++ (count_line (codes "nothing") r.nothing ++ (told_line r.told ++ (list_line (codes "inside") (r.surely_inside ∷ r.perhaps_inside ∷ [])
    ++ (count_line (codes "overlapped") r.overlapped ++ count_line (codes "open") r.under_way)))))))))

-- the line of a fault of recorded calls
abbrev pub calls_fault_line : ℕ → List ℕ → List ℕ
calls_fault_line line words = codes "fault: line " ++ (decimal line ++ (codes ": " ++ (words ++ codes "\n")))

-- the line of a recording that says that the later calls are missing; there is none for other recordings
abbrev pub cut_line : Bool → List ℕ
cut_line true = codes "cut yes\n"
cut_line false = []

-- the text of the finding on a recording, by whether it says so
abbrev pub calls_text_of : Bool → CallsFinding → List ℕ
calls_text_of is_cut (calls.Lawful report) = calls_report_text_of report ++ cut_line is_cut
calls_text_of is_cut (calls.OutOfTurn line) = calls_fault_line line (codes "out of turn")
calls_text_of is_cut (calls.NotLinearizable line cause) = calls_fault_line line (cause_words cause)

-- ---- the text of a report

-- the contents of a report: the number of events, the items put and taken, whether a take returned Closed, how many puts
-- found the ring full and takes found it empty, and how many reads a write overlapped
pub record Summary : Type 0 where
  pub events : ℕ
  pub put : List ℕ
  pub taken : List ℕ
  pub told : Bool
  pub full : ℕ
  pub empty : ℕ
  pub flicker : ℕ

-- the contents of a report on a play
abbrev pub summary_of : {A : Type 0} → Report (Vec Event A) (Vec ℕ A) → Summary
summary_of r = record {
  events = length r.history.items;
  put = r.put.now;
  taken = r.taken.items;
  told = r.told;
  full = r.full;
  empty = r.empty;
  flicker = r.flicker;
}

-- the lines of a report
abbrev pub report_text_of : Summary → List ℕ
report_text_of r =
    count_line (codes "events") r.events ++ (list_line (codes "put") r.put ++ (list_line (codes "taken") r.taken ++ (told_line r.told
    ++ (count_line (codes "full") r.full ++ (count_line (codes "empty") r.empty ++ count_line (codes "flicker") r.flicker)))))

-- ---- the text of a relay

-- the line that says whether a take returned Closed
abbrev pub closed_line : Bool → List ℕ
closed_line true = codes "closed yes\n"
closed_line false = codes "closed no\n"

-- how many items were put and taken, and whether a take returned Closed
abbrev pub relay_text_of : ℕ → ℕ → Bool → List ℕ
relay_text_of put taken closed = count_line (codes "put") put ++ (count_line (codes "taken") taken ++ closed_line closed)

-- ---- the report of a relay

-- items per second, if this many were taken in this many nanoseconds: a whole number of 64 bits, if some time passed
abbrev pub pace_of : ℕ → ℕ → Option ℕ
pace_of taken nanos =
    let pace = taken * 1000000000 / nanos in
    if nat_lt 0 nanos && nat_lt pace (2 ^ 64) then Some pace else None

-- the line of the items per second
abbrev pub pace_line : Option ℕ → List ℕ
pace_line (Some pace) = count_line (codes "items a second") pace
pace_line None = codes "items a second unknown\n"

-- the text of a relay, and then how many puts were made, how many of them found the ring full, how many takes found it empty,
-- and the items taken per second, if a clock returned the time
abbrev pub relay_report_of : ℕ → ℕ → ℕ → ℕ → ℕ → Bool → Option ℕ → List ℕ
relay_report_of put calls full taken empty closed time =
    relay_text_of put taken closed ++ (count_line (codes "calls") calls ++ (count_line (codes "full") full
    ++ (count_line (codes "empty") empty ++ pace_line (option_and_then (pace_of taken) time))))

-- ---- the text of recorded calls

-- the items that a take took: the first ones of this list
abbrev pub first_items : List ℕ → ℕ → List ℕ
first_items items count = take count items

-- or those after the items taken earlier
abbrev pub items_behind : List ℕ → TakenItems → List ℕ
items_behind items taken = take taken.count (drop taken.before items)

-- how many items an event of calls by a near miss takes
abbrev pub items_by : CallEvent ℕ ℕ → ℕ
items_by (TakeEnds (Passed count)) = count
items_by _ = 0

-- the calls of a play by a near miss, as events: each take has the next of the items taken
abbrev pub near_calls : Content → List ℕ → List (CallEvent ℕ ℕ) → List queue.Event
near_calls script taken [] = []
near_calls script taken (event ∷ told) = event_by (offered script) (first_items taken) event ∷ near_calls script (drop (items_by event) taken) told

-- a line with the ring's capacity, and the line of each event of calls
abbrev pub told_text_of : Content → List queue.Event → List ℕ
told_text_of script events = lines_text (line word.Queue (capacity_of script.shape ∷ []) ∷ lines_of begun.Nothing events)
