-- The text of the calls of a play, line by line.
use Rattle.std.proofs.Common.{◌≡◌, ◌∙◌, ℕ, ◌+◌, length, drop, get_or, Bool, ◌<◌, ◌≤◌, List, [], ◌∷◌, ◌++◌, ap, ap₂, sym, subst, append_assoc, arith}
use Rattle.std.proofs.lemmas.List.{append-nil, drop_more}
use Rattle.queue_calls.specs.Calls.{Event}
use Rattle.queue_calls.specs.InTurn.{CallsAreInTurn}
use Rattle.call_lines.specs.Lines.{AreSmall}
use Rattle.queue_calls.specs.Queue.{exactly}
use Rattle.queue_calls.specs.Recordings.{IsRecording, begun_after, first_word, line, lines_text, text_of}
use Rattle.queue_calls.specs.Tellings.{HistoryHasARecording, TellsSmall, line_of, lines_of, numbers_in}
use Rattle.call_lines.specs.declared.lines.Word.TheVariants.{Queue}
use Rattle.queue_calls.specs.declared.hearings.Begun.{Begun}
use Rattle.queue_calls.specs.declared.hearings.Begun.TheVariants as begun
use Rattle.queue_calls.specs.Told.{event_by}
use Rattle.queue_calls.specs.declared.events.CallEvent.{CallEvent}
use Rattle.ring_player.specs.Plays.{offered}
use Rattle.ring_player.specs.Tellings.{call_events}
use Rattle.ring_player.specs.declared.tellings.TakenItems.{TakenItems}
use Rattle.ring_script.specs.Content.{Content}
use Rattle.ring_program.specs.Texts.{first_items, items_behind, items_by, near_calls}

-- After a line with this capacity, the lines so far and those of the events that are left are those of the history; its numbers are
-- small, if those of the events that are left are
abbrev pub IsToldSoFar : ℕ → List Event → List Event → Begun → List ℕ → Type 0
IsToldSoFar capacity h rest b text =
    (lines_text (line Queue (capacity ∷ []) ∷ lines_of begun.Nothing h) ≡ text ++ lines_text (lines_of b rest))
    × (TellsSmall rest → TellsSmall h)

pub telling_goes_on : (capacity : ℕ) (h : List Event) (event : Event) (rest : List Event) (b : Begun) (text : List ℕ) (next : Begun) (after : List ℕ)
    → after ≡ text ++ text_of (line_of b event) → next ≡ begun_after b (line_of b event).word (line_of b event).numbers
    → AreSmall (numbers_in event) → IsToldSoFar capacity h (event ∷ rest) b text → IsToldSoFar capacity h rest next after
telling_goes_on capacity h event rest b text next after pushed next_is small (whole, smalls) = grind (arith, append_assoc, ap₂)

pub telling_is_told : (capacity : ℕ) (h rest : List Event) (b : Begun) (text : List ℕ) → rest ≡ [] → IsToldSoFar capacity h rest b text
    → text ≡ lines_text (line Queue (capacity ∷ []) ∷ lines_of begun.Nothing h)
telling_is_told capacity h rest b text none (whole, smalls) = sym (whole ∙ ap (λ (r : List Event). text ++ lines_text (lines_of b r)) none ∙ append-nil text)

pub telling_is_small : (capacity : ℕ) (h rest : List Event) (b : Begun) (text : List ℕ) → rest ≡ [] → IsToldSoFar capacity h rest b text → TellsSmall h
telling_is_small capacity h rest b text none (whole, smalls) = smalls (subst TellsSmall (sym none) tt)

pub told_is_recording : (is_cut : Bool) (capacity n : ℕ) (h : List Event) (text : List ℕ) → n ≡ capacity → 0 < n → n ≤ 64 → HistoryHasARecording → CallsAreInTurn h → TellsSmall h
    → text ≡ lines_text (line (first_word is_cut) (capacity ∷ []) ∷ lines_of begun.Nothing h) → (is : IsRecording text (exactly capacity) h) × (is.is_cut ≡ is_cut)
told_is_recording is_cut capacity n h text same some few law in_turn small is =
    subst (λ (t : List ℕ). (r : IsRecording t (exactly capacity) h) × (r.is_cut ≡ is_cut)) (sym is)
    (law is_cut capacity h (omega (arith, same, some)) (omega (arith, same, few)) in_turn small)

-- the events of calls by a near miss, one by one
pub near_more : (script : Content) (left next : List ℕ) (told : List (CallEvent ℕ ℕ)) (i : ℕ) (other : CallEvent ℕ ℕ) (event : Event) → i < length told
    → event ≡ event_by (offered script) (first_items left) (get_or told i other) → next ≡ drop (items_by (get_or told i other)) left
    → near_calls script left (drop i told) ≡ event ∷ near_calls script next (drop (i + 1) told)
near_more script left next told i other event within is next_is = grind (arith, drop_more, ap₂)

pub told_more : (script : Content) (items : List ℕ) (told : List (CallEvent ℕ TakenItems)) (i : ℕ) (other : CallEvent ℕ TakenItems) (event : Event) → i < length told → items ≡ script.items
    → event ≡ event_by (offered script) (items_behind items) (get_or told i other) → call_events script (drop i told) ≡ event ∷ call_events script (drop (i + 1) told)
told_more script items told i other event within same is = grind (arith, drop_more)
