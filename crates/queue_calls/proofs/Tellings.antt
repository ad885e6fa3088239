-- The lines of a well-formed history are a recording of it.
use Rattle.std.proofs.Common.{◌≡◌, ℕ, ◌^◌, ◌<◌, Bool, nat_lt, Some, List, [], ◌∷◌, length, refl, ap, sym, ◌∙◌, arith}
use Rattle.queue_calls.proofs.Common.{All, ltb-true, ltb-false, All-cons, All-nil, Event, UnderWay, NoCall, APut, AClose, ATake, Sides, sides, MovesSides, Turns, Allows, AreSmall, first_word, Line}
use Rattle.queue_calls.proofs.Common.{IsOfFormat, IsFurther, event_told, begun_after, and_then, events_told}
use Rattle.queue_calls.specs.Tellings.{line_of, lines_of, numbers_in, TellsSmall, HistoryHasARecording}
use Rattle.queue_calls.specs.declared.hearings.Begun.{Begun}
use Rattle.queue_calls.specs.declared.hearings.Begun.TheVariants as begun
use Rattle.queue_calls.proofs.HeardLines.{not_first}

-- what the producer has under way is what it began last
abbrev BeganLast : Begun → UnderWay → Type 0
BeganLast b NoCall = Unit {0}
BeganLast b (APut offered) = b ≡ begun.Put offered
BeganLast b AClose = b ≡ begun.Close
BeganLast b (ATake wanted) = Unit {0}

-- a line of the format has this event
abbrev Tells : Begun → Line → Event → Type 0
Tells b l event = (event_told b l.word l.numbers ≡ Some event) × IsOfFormat l

none_small : AreSmall []
none_small = All-nil (λ n. n < 2 ^ 64)

-- ---- one event

-- the line of an event in turn has that event
line_tells : (b : Begun) (event : Event) (s t : Sides) → BeganLast b s.producer → MovesSides s event t → AreSmall (numbers_in event) → Tells b (line_of b event) event
line_tells b event s t began turn small = grind (arith, nat_lt, ltb-false, none_small, ltb-true)

-- after it what the producer has under way is again what it began last
began_behind : (b : Begun) (event : Event) (s t : Sides) → BeganLast b s.producer → MovesSides s event t → BeganLast (begun_after b (line_of b event).word (line_of b event).numbers) t.producer
began_behind b event s t began turn = grind (arith, length)

-- ---- a history

lines_tell : (b : Begun) (h : List Event) (s t : Sides) → BeganLast b s.producer → Turns s h t → TellsSmall h → (h ≡ events_told b (lines_of b h)) × All IsFurther (lines_of b h)
lines_tell b [] s t began turns small = (refl, All-nil IsFurther)
lines_tell b (event ∷ h) s t began (next, turn, turns) small =
    let l : Line = line_of b event in
    let after : Begun = begun_after b l.word l.numbers in
    let tells = line_tells b event s next began turn small.0 in
    let later = lines_tell after h next t (began_behind b event s next began turn) turns small.1 in (
      ap (λ (events : List Event). event ∷ events) later.0 ∙ sym (ap (λ o. and_then o (events_told after (lines_of after h))) tells.0),
      All-cons IsFurther l (lines_of after h) (not_first b l.word l.numbers event tells.0, tells.1) later.1,
    )

first_allowed : (is_cut : Bool) (most : ℕ) → 0 < most → Allows (first_word is_cut) (most ∷ [])
first_allowed is_cut most some = grind arith

pub history_has_a_recording : HistoryHasARecording
history_has_a_recording is_cut most h some fits (t, turns) small =
    let told = lines_tell begun.Nothing h (sides NoCall NoCall) t tt turns small in (
      record {
        is_cut = is_cut;
        first = most ∷ [];
        further = lines_of begun.Nothing h;
        text = refl;
        are = ((is_cut, refl), (first_allowed is_cut most some, All-cons (λ n. n < 2 ^ 64) most [] fits none_small), told.1);
        tells_capacity = refl;
        tells_events = told.0;
      },
      refl,
    )
