-- The cases in which a list of a recording is too short: for a line, and for the text.
use Rattle.std.proofs.Common.{◌≡◌, ◌⊎◌, inl, inr, Bool, ℕ, Option, Some, List, [], ◌∷◌, ◌++◌, refl, sym, ap, subst, ◌∙◌, append_assoc}
use Rattle.std.proofs.lemmas.List.{append-nil}
use Rattle.queue_calls.proofs.Common.{Event, OutgrowsLists, Line, line, first_word, lines_text, AreLines, and_then, begun_behind, capacity_told, event_told, events_told, Word}
use Rattle.call_lines.specs.Lines.{line_text, BeginsWithNumbers}
use Rattle.queue_calls.specs.Rooms.{AreTooShort, HasLongHistory, HasLongLine, HasManyNumbers, Rooms}
use Rattle.call_causes.specs.declared.entries.TheConstants.{TAKEN_LIMIT}
use Rattle.queue_calls.specs.declared.hearings.Begun.TheVariants as begun
use Rattle.queue_calls.proofs.HeardLines.{events_more}
use Rattle.queue_calls.proofs.RecordingLemmas.{lines_more}

-- ---- a text that continues

pub long_on : (limit offered taken : ℕ) (text more : List ℕ) → HasLongHistory limit offered taken text → HasLongHistory limit offered taken (text ++ more)
long_on limit offered taken text more has = record {
  first = has.first;
  rest = has.rest ++ more;
  capacity = has.capacity;
  events = has.events;
  parts = ap (λ (t : List ℕ). t ++ more) has.parts ∙ append_assoc has.first has.rest more;
  recording = has.recording;
  needs = has.needs;
}

pub numbers_on : (room : ℕ) (bytes more : List ℕ) → BeginsWithNumbers room bytes → BeginsWithNumbers room (bytes ++ more)
numbers_on room bytes more begins = record {
  word = begins.word;
  numbers = begins.numbers;
  rest = begins.rest ++ more;
  parts = ap (λ (t : List ℕ). t ++ more) begins.parts ∙ append_assoc _ begins.rest more;
  small = begins.small;
  more = begins.more;
}

pub many_on : (room : ℕ) (text more : List ℕ) → HasManyNumbers room text → HasManyNumbers room (text ++ more)
many_on room text more has =
    (has.0, has.1 ++ more, ap (λ (t : List ℕ). t ++ more) has.2 ∙ append_assoc (lines_text has.0) has.1 more, numbers_on room has.1 more has.3)

pub long_line_on : (room : ℕ) (text more : List ℕ) → HasLongLine room text → HasLongLine room (text ++ more)
long_line_on room text more has = record {
  lines = has.lines;
  bytes = has.bytes;
  rest = has.rest ++ more;
  parts = ap (λ (t : List ℕ). t ++ more) has.parts ∙ append_assoc (lines_text has.lines) (has.bytes ++ has.rest) more ∙ ap (λ (t : List ℕ). lines_text has.lines ++ t) (append_assoc has.bytes has.rest more);
  no_feed = has.no_feed;
  more = has.more;
}

pub too_short_on : (rooms : Rooms) (text more : List ℕ) → AreTooShort rooms text → AreTooShort rooms (text ++ more)
too_short_on rooms text more (inl has) = inl (long_on TAKEN_LIMIT rooms.offered rooms.taken text more has)
too_short_on rooms text more (inr (inl has)) = inr (inl (many_on rooms.numbers text more has))
too_short_on rooms text more (inr (inr has)) = inr (inr (long_line_on rooms.bytes text more has))

-- ---- a line

-- a line with the event for which a list is too short
pub line_long :
    (limit offered taken : ℕ) (before : List Line) (is_cut : Bool) (bytes first : List ℕ) (further : List Line) (w : Word) (numbers : List ℕ) (event : Event) → before ≡ line (first_word is_cut) first ∷ further →
    AreLines (before ++ line w numbers ∷ []) → bytes ≡ line_text w numbers → event_told (begun_behind begun.Nothing further) w numbers ≡ Some event →
    OutgrowsLists limit offered taken (capacity_told first) (events_told begun.Nothing further ++ event ∷ []) →
    HasLongHistory limit offered taken (lines_text before ++ (bytes ++ 10 ∷ []))
line_long limit offered taken before is_cut bytes first further w numbers event parts are text tells needs =
    let l : Line = line w numbers in record {
      first = lines_text (before ++ l ∷ []);
      rest = [];
      capacity = capacity_told first;
      events = events_told begun.Nothing further ++ event ∷ [];
      parts = ap (λ (t : List ℕ). lines_text before ++ (t ++ 10 ∷ [])) text ∙ sym (lines_more before l) ∙ sym (append-nil (lines_text (before ++ l ∷ [])));
      recording = record {
        is_cut = is_cut;
        first = first;
        further = further ++ l ∷ [];
        text = ap (λ (lines : List Line). lines_text (lines ++ l ∷ [])) parts;
        are = subst (λ (lines : List Line). AreLines (lines ++ l ∷ [])) parts are;
        tells_capacity = refl;
        tells_events = sym (events_more begun.Nothing further l ∙ ap (λ (o : Option Event). events_told begun.Nothing further ++ and_then o []) tells);
      };
      needs = needs;
    }

pub line_short :
    (rooms : Rooms) (before : List Line) (bytes text : List ℕ) → text ≡ lines_text before ++ (bytes ++ 10 ∷ []) →
    HasLongHistory TAKEN_LIMIT rooms.offered rooms.taken (lines_text before ++ (bytes ++ 10 ∷ [])) ⊎ BeginsWithNumbers rooms.numbers bytes → AreTooShort rooms text
line_short rooms before bytes text parts (inl long) = inl (subst (HasLongHistory TAKEN_LIMIT rooms.offered rooms.taken) (sym parts) long)
line_short rooms before bytes text parts (inr many) = inr (inl (before, bytes ++ 10 ∷ [], parts, numbers_on rooms.numbers bytes (10 ∷ []) many))

pub rooms_same :
    (o o' t t' n n' b b' : ℕ) → o ≡ o' → t ≡ t' → n ≡ n' → b ≡ b' →
    ◌≡◌ {A = Rooms} (record { offered = o; taken = t; numbers = n; bytes = b }) (record { offered = o'; taken = t'; numbers = n'; bytes = b' })
rooms_same o o' t t' n n' b b' po pt pn pb = λ j. record { offered = po j; taken = pt j; numbers = pn j; bytes = pb j }
