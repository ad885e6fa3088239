-- One more line after lines, and lines that cannot come after them.
use Rattle.std.proofs.Common.{◌≡◌, ◌≢◌, ℕ, ◌+◌, Bool, Option, Some, None, List, [], ◌∷◌, ◌++◌, length, refl, ap, sym, subst, ◌∙◌, arith}
use Rattle.queue_calls.proofs.Common.{All, All-append, All-cons, All-head, All-nil, All-tail, none-some, Event, IsLine, Line, line, first_word, IsOfFormat, IsFurther, AreLines, capacity_told}
use Rattle.queue_calls.proofs.Common.{event_told, begun_after, begun_behind, and_then, events_told, Word, Offered, Taken, Hearing}
use Rattle.queue_calls.specs.RecordingStates.{HasHeard, HeardLines, ContinuesLines}
use Rattle.queue_calls.specs.declared.hearings.Begun.{Begun}
use Rattle.queue_calls.specs.declared.hearings.Begun.TheVariants as begun
use Rattle.call_lines.proofs.LineLemmas.{line_same}

-- ---- events

-- a word of a first line
abbrev pub IsFirst : Word → Type 0
IsFirst w = (is_cut : Bool) × (w ≡ first_word is_cut)

-- a line after the first has an event
no_event : (b : Begun) (w : Word) (numbers : List ℕ) → event_told b w numbers ≡ None → IsFirst w
no_event b w numbers e = grind (arith, none-some)

-- the first line has none
first_tells_none : (b : Begun) (is_cut : Bool) (numbers : List ℕ) → event_told b (first_word is_cut) numbers ≡ None
first_tells_none b is_cut numbers = grind arith

pub not_first : (b : Begun) (w : Word) (numbers : List ℕ) (event : Event) → event_told b w numbers ≡ Some event → (is_cut : Bool) → w ≢ first_word is_cut
not_first b w numbers event e is_cut is = none-some event (sym (first_tells_none b is_cut numbers) ∙ sym (ap (λ (v : Word). event_told b v numbers) is) ∙ e)

-- as many events as lines
pub as_many : (b : Begun) (lines : List Line) → All IsFurther lines → length (events_told b lines) ≡ length lines
as_many b [] all = refl
as_many b (l ∷ lines) all = search (arith, length, no_event, All-head, All-tail, as_many (begun_after b l.word l.numbers) lines (All-tail IsFurther l lines all))

and_then-append : (o : Option Event) (xs ys : List Event) → and_then o xs ++ ys ≡ and_then o (xs ++ ys)
and_then-append o xs ys = grind arith

pub begun_more : (b : Begun) (lines : List Line) (l : Line) → begun_behind b (lines ++ l ∷ []) ≡ begun_after (begun_behind b lines) l.word l.numbers
begun_more b [] l = refl
begun_more b (x ∷ lines) l = begun_more (begun_after b x.word x.numbers) lines l

pub events_more : (b : Begun) (lines : List Line) (l : Line) → events_told b (lines ++ l ∷ []) ≡ events_told b lines ++ and_then (event_told (begun_behind b lines) l.word l.numbers) []
events_more b [] l = refl
events_more b (x ∷ lines) l =
    let after : Begun = begun_after b x.word x.numbers in
    ap (and_then (event_told b x.word x.numbers)) (events_more after lines l) ∙ sym (and_then-append (event_told b x.word x.numbers) (events_told after lines) _)

-- ---- lines

-- the last of the lines is in the format, and after the first it is a further one
All-last : (further : List Line) (l : Line) → All IsFurther (further ++ l ∷ []) → IsFurther l
All-last [] l all = All-head IsFurther l [] all
All-last (x ∷ further) l all = All-last further l (All-tail IsFurther x (further ++ l ∷ []) all)

last_is : (before : List Line) (l : Line) → AreLines (before ++ l ∷ []) → IsOfFormat l
last_is [] l are = are.1
last_is (first ∷ further) l are = (All-last further l are.2).1

pub is_line : (before : List Line) (bytes : List ℕ) (l : Line) → ContinuesLines before bytes l → IsLine bytes l.word l.numbers
is_line before bytes l on = grind (arith, last_is)

-- a line whose word is not that of a first line does not come first
pub not_the_first : (before : List Line) (bytes numbers : List ℕ) (w : Word) (l : Line) → before ≡ [] → ¬ IsFirst w → IsLine bytes w numbers → ¬ (ContinuesLines before bytes l)
not_the_first before bytes numbers w l none other is on = grind (arith, line_same, is_line, length)

-- no line that continues others is without an event
pub not_further : (before : List Line) (bytes numbers told : List ℕ) (b : Begun) (w : Word) (l : Line) → before ≢ [] → event_told b w told ≡ None → IsLine bytes w numbers → ¬ (ContinuesLines before bytes l)
not_further [] bytes numbers told b w l some none is on = some refl
not_further (x ∷ further) bytes numbers told b w l some none is on = grind (arith, no_event b w told none, All-last further l on.0.2, line_same, is_line)

-- the first line
pub first_line : (before : List Line) (bytes numbers : List ℕ) (is_cut : Bool) → before ≡ [] → IsLine bytes (first_word is_cut) numbers → ContinuesLines before bytes (line (first_word is_cut) numbers)
first_line before bytes numbers is_cut none is = grind (arith, All-nil, length)

pub first_heard : {S O T N B : Type 0} (offered : O → List Offered) (last : T → List Taken) (hearing : Hearing S O T N B) (before : List Line) (is_cut : Bool) (numbers : List ℕ) → before ≡ [] → hearing.begun ≡ begun.Nothing → HasHeard offered last hearing (capacity_told numbers) []
    → HeardLines offered last hearing is_cut (before ++ line (first_word is_cut) numbers ∷ [])
first_heard offered last hearing x is_cut numbers none rests heard = grind (arith, length)

-- a further line
pub further_line : (before : List Line) (is_cut : Bool) (bytes first : List ℕ) (further : List Line) (b : Begun) (w : Word) (numbers : List ℕ) (event : Event) → before ≡ line (first_word is_cut) first ∷ further → AreLines before
    → IsLine bytes w numbers → event_told b w numbers ≡ Some event → ContinuesLines before bytes (line w numbers)
further_line before is_cut bytes first further b w numbers event parts are is tells =
    let were : AreLines (line (first_word is_cut) first ∷ further) = subst AreLines parts are in
    let last : IsFurther (line w numbers) = (not_first b w numbers event tells, (is.allowed, is.small)) in
    let all : AreLines (line (first_word is_cut) first ∷ (further ++ line w numbers ∷ [])) = (were.0, were.1, All-append IsFurther further (line w numbers ∷ []) were.2 (All-cons IsFurther (line w numbers) [] last (All-nil IsFurther))) in
    (subst (λ (lines : List Line). AreLines (lines ++ line w numbers ∷ [])) (sym parts) all, is.text)

pub count_is : (before : List Line) (is_cut : Bool) (first : List ℕ) (further : List Line) (b : Begun) (count line_number : ℕ) → before ≡ line (first_word is_cut) first ∷ further → AreLines before → count ≡ length before → line_number ≡ count + 1
    → length (events_told b further) + 2 ≡ line_number
count_is before is_cut first further b count line_number parts are is next = grind (arith, length, as_many)

pub further_heard : {S O T N B : Type 0} (offered : O → List Offered) (last : T → List Taken) (hearing : Hearing S O T N B) (before : List Line) (is_cut : Bool) (first : List ℕ) (further : List Line) (w : Word) (numbers : List ℕ) (event : Event) → before ≡ line (first_word is_cut) first ∷ further
    → event_told (begun_behind begun.Nothing further) w numbers ≡ Some event → hearing.begun ≡ begun_after (begun_behind begun.Nothing further) w numbers
    → HasHeard offered last hearing (capacity_told first) (events_told begun.Nothing further ++ event ∷ []) → HeardLines offered last hearing is_cut (before ++ line w numbers ∷ [])
further_heard offered last hearing before is_cut first further w numbers event parts tells behind heard =
    grind (arith, events_more begun.Nothing further (line w numbers), begun_more begun.Nothing further (line w numbers))
