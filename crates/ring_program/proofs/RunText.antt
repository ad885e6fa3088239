-- The recording of a run, as far as it is written.
use Rattle.std.proofs.Common.{rules, ◌≡◌, ◌∙◌, ℕ, Bool, false, ◌-◌, ◌<◌, ◌≤◌, List, [], ◌∷◌, ◌++◌, drop, refl, ap, ap₂, sym, subst, arith}
use Rattle.std.proofs.lemmas.List.{append-nil, drop-drop}
use Rattle.std.proofs.lemmas.List.Sums.{sum_by_push}
use Rattle.std.specs.List.{sum_by}
use Rattle.bits_core.specs.Shape.{batch_of, capacity_of, take_batch_of}
use Rattle.bits_core.specs.declared.shapes.Shape.{Shape}
use Rattle.queue_calls.specs.Audits.{Audits}
use Rattle.queue_calls.specs.Calls.{Event, IsLinearizable}
use Rattle.call_lines.specs.Lines.{AreSmall, word_text}
use Rattle.queue_calls.specs.Order.{P, C}
use Rattle.queue_calls.specs.Queue.{exactly}
use Rattle.queue_calls.specs.Recordings.{Line, begun_after, begun_behind, first_word, line, lines_text, text_of}
use Rattle.queue_calls.specs.Tellings.{HistoryHasARecording, LinearizableIsInTurn, TellsSmall, line_of, lines_of, numbers_in}
use Rattle.queue_calls.specs.Told.{meant}
use Rattle.queue_calls.specs.declared.auditors.CallAuditor.{CallAuditor}
use Rattle.queue_calls.specs.declared.hearings.Begun.{Begun}
use Rattle.queue_calls.specs.declared.hearings.Begun.TheVariants as begun
use Rattle.ring_program.specs.RunRecordings.{AreOfRun, IsOfRun, RecordsRun, RunCounts, TellAllBut, nothing_left, room_with, stored_with}
use Rattle.ring_program.specs.Texts.{list_line}
use Rattle.ring_program.specs.Untold.{TakesOff, left_of}
use Rattle.ring_program.specs.declared.run_recordings.Room.{Room}
use Rattle.ring_program.specs.declared.run_recordings.Untold.{Untold}
use Rattle.ring_program.specs.declared.run_recordings.TheConstants.{RECORDED}
use Rattle.ring_program.proofs.RecordingText.{line_is}
use Rattle.ring_program.proofs.RunTelling.{are_more, tell_more}
use Rattle.ring_program.proofs.TellingText.{told_is_recording}
use Rattle.queue_calls.proofs.HeardLines.{begun_more}
use Rattle.queue_calls.proofs.RecordingLemmas.{lines_more as text_more}

tells_nothing : (all : RunCounts) → TellAllBut all all []
tells_nothing all = search (rules, arith)

-- ---- one more event

lines_more : (b : Begun) (h : List Event) (event : Event) → lines_of b (h ++ event ∷ []) ≡ lines_of b h ++ line_of (begun_behind b (lines_of b h)) event ∷ []
lines_more b [] event = refl
lines_more b (e ∷ h) event = ap (λ (ls : List Line). line_of b e ∷ ls) (lines_more (begun_after b (line_of b e).word (line_of b e).numbers) h event)

small_more : (h : List Event) (event : Event) → TellsSmall h → AreSmall (numbers_in event) → TellsSmall (h ++ event ∷ [])
small_more [] event all small = (small, tt)
small_more (e ∷ h) event all small = (all.0, small_more h event all.1 small)

-- ---- what is written so far

-- the text has a first line with the capacity, and whether later calls are missing, and the lines of these events
pub record IsWritten (is_cut : Bool) (capacity : ℕ) (b : Begun) (text : List ℕ) (events : List Event) : Type 0 where
  pub text_is : text ≡ lines_text (line (first_word is_cut) (capacity ∷ []) ∷ lines_of begun.Nothing events)
  pub begun_is : b ≡ begun_behind begun.Nothing (lines_of begun.Nothing events)
  pub small : TellsSmall events

-- the events are of the run, and this is left of it and of the room of the logs
pub record IsLeft (shape : Shape) (items : List ℕ) (all : RunCounts) (untold : Untold) (room : Room) (events : List Event) : Type 0 where
  pub in_order : AreOfRun shape items events
  pub items_are : untold.items.now ≡ drop (sum_by stored_with events) items
  pub tells : TellAllBut (left_of untold) all events
  pub puts : room.puts ≡ RECORDED - sum_by (room_with P) events
  pub takes : room.takes ≡ RECORDED - sum_by (room_with C) events

-- the events are read
pub record IsAudited {Q E : Type 0} (items_of : Q → List ℕ) (capacity : ℕ) (auditor : CallAuditor Q E) (events : List Event) : Type 0 where
  pub audits : Audits items_of auditor events
  pub capacity_is : meant auditor.capacity ≡ exactly capacity
  pub linearizable : IsLinearizable (exactly capacity) events

pub record HasTold {Q E : Type 0} (items_of : Q → List ℕ) (is_cut : Bool) (capacity : ℕ) (shape : Shape) (items : List ℕ) (all : RunCounts) (text : List ℕ) (auditor : CallAuditor Q E)
    (untold : Untold) (room : Room) (b : Begun) : Type 0 where
  pub events : List Event
  pub is_written : IsWritten is_cut capacity b text events
  pub is_audited : IsAudited items_of capacity auditor events
  pub is_left : IsLeft shape items all untold room events

pub writes_more : (is_cut : Bool) (capacity : ℕ) (b next : Begun) (text after : List ℕ) (events : List Event) (event : Event)
    → after ≡ text ++ text_of (line_of b event) → next ≡ begun_after b (line_of b event).word (line_of b event).numbers
    → AreSmall (numbers_in event) → IsWritten is_cut capacity b text events → IsWritten is_cut capacity next after (events ++ event ∷ [])
writes_more is_cut capacity b next text after events event pushed next_is small w =
    let lines = lines_of begun.Nothing events in
    let last = begun_behind begun.Nothing lines in
    let l = line_of last event in
    let more = lines_more begun.Nothing events event in
    record {
      text_is = pushed ∙ ap (λ (x : Begun). text ++ text_of (line_of x event)) w.begun_is ∙ ap (λ (t : List ℕ). t ++ text_of l) w.text_is
          ∙ sym (text_more (line (first_word is_cut) (capacity ∷ []) ∷ lines) l) ∙ ap (λ (ls : List Line). lines_text (line (first_word is_cut) (capacity ∷ []) ∷ ls)) (sym more);
      begun_is = next_is ∙ ap (λ (x : Begun). begun_after x (line_of x event).word (line_of x event).numbers) w.begun_is
          ∙ sym (begun_more begun.Nothing lines l) ∙ ap (λ (ls : List Line). begun_behind begun.Nothing ls) (sym more);
      small = small_more events event w.small small;
    }

pub leaves_less : (shape : Shape) (items : List ℕ) (all : RunCounts) (untold after : Untold) (room less : Room) (events : List Event) (event : Event)
    → IsOfRun shape untold.items.now event → TakesOff untold event after → less.puts ≡ room.puts - room_with P event → less.takes ≡ room.takes - room_with C event
    → IsLeft shape items all untold room events → IsLeft shape items all after less (events ++ event ∷ [])
leaves_less shape items all untold after room less events event is off puts takes l = record {
  in_order = are_more shape items events event l.in_order (subst (λ (xs : List ℕ). IsOfRun shape xs event) l.items_are is);
  items_are = off.items ∙ ap (λ (xs : List ℕ). drop (stored_with event) xs) l.items_are ∙ drop-drop (stored_with event) (sum_by stored_with events) items
      ∙ ap (λ (n : ℕ). drop n items) (sym (sum_by_push stored_with events event));
  tells = tell_more (left_of after) (left_of untold) all events event l.tells off.tells;
  puts = grind (arith, sum_by_push);
  takes = grind (arith, sum_by_push);
}

pub audits_more : {Q E : Type 0} (items_of : Q → List ℕ) (capacity : ℕ) (auditor after : CallAuditor Q E) (events : List Event) (event : Event)
    → after.capacity ≡ auditor.capacity
    → ((h : List Event) → Audits items_of auditor h → Audits items_of after (h ++ event ∷ []) × IsLinearizable (meant auditor.capacity) (h ++ event ∷ []))
    → IsAudited items_of capacity auditor events → IsAudited items_of capacity after (events ++ event ∷ [])
audits_more {Q} items_of capacity auditor after events event same reads a = grind arith

-- ---- at the start and at the end

pub begins_run : {Q E : Type 0} (items_of : Q → List ℕ) (is_cut : Bool) (capacity : ℕ) (shape : Shape) (items : List ℕ) (all : RunCounts) (text before word : List ℕ) (n : ℕ) (auditor : CallAuditor Q E)
    (untold : Untold) → before ≡ [] → word ≡ word_text (first_word is_cut) → n ≡ capacity → text ≡ before ++ list_line word (n ∷ []) → Audits items_of auditor []
    → meant auditor.capacity ≡ exactly capacity → IsLinearizable (meant auditor.capacity) [] → untold.items.now ≡ items → left_of untold ≡ all
    → HasTold items_of is_cut capacity shape items all text auditor untold (record { puts = RECORDED; takes = RECORDED }) begun.Nothing
begins_run {Q} items_of is_cut capacity shape items all text before word n auditor untold none word_is same is audits capacity_is linearizable items_are left_is =
    grind (arith, ap₂, line_is, append-nil, tells_nothing)

pub records_run : {Q E : Type 0} (items_of : Q → List ℕ) (is_cut : Bool) (shape : Shape) (n : ℕ) (items : List ℕ) (all : RunCounts) (text : List ℕ) (auditor : CallAuditor Q E) (untold : Untold)
    (room : Room) (b : Begun) → HistoryHasARecording → LinearizableIsInTurn → n ≡ capacity_of shape → 0 < n → n ≤ 64
    → (is_cut ≡ false → left_of untold ≡ nothing_left) → (batch_of shape ≤ room.puts → take_batch_of shape ≤ room.takes → left_of untold ≡ nothing_left)
    → HasTold items_of is_cut (capacity_of shape) shape items all text auditor untold room b → RecordsRun shape items all text
records_run {Q} items_of is_cut shape n items all text auditor untold room b law in_turn same some few cut whole t =
    let linearizable : IsLinearizable (exactly (capacity_of shape)) t.events = t.is_audited.linearizable in
    let recording = told_is_recording is_cut (capacity_of shape) n t.events text same some few law (in_turn (exactly (capacity_of shape)) t.events linearizable) t.is_written.small t.is_written.text_is in
    record {
      events = t.events;
      is_recording = recording.0;
      linearizable = linearizable;
      in_order = t.is_left.in_order;
      left = left_of untold;
      tells = t.is_left.tells;
      cut = λ uncut. cut (sym recording.1 ∙ uncut);
      whole = λ room_left. whole (omega (arith, t.is_left.puts, room_left.0)) (omega (arith, t.is_left.takes, room_left.1));
    }
