-- The findings on recorded calls as they are read.
use Rattle.std.proofs.Common.{arith, ◌≡◌, ◌≢◌, ◌≤◌, ◌+◌, ◌-◌, ◌^◌, ◌∙◌, Bool, true, false, ℕ, zero, suc, List, [], ◌++◌, Option, None, Some, Result, Ok, Err, IfSome, append_assoc, ap, length, length-append, refl, subst, sym, take}
use Rattle.std.specs.Prelude.{IfOk, MatchOption}
use Rattle.std.proofs.lemmas.List.{append-nil, length-take-le}
use Rattle.std.proofs.lemmas.Option.{none-some, same_Some}
use Rattle.std.proofs.KnownBytes.{Consumes-trans, Consumes-whole}
use Rattle.std.specs.Io.KnownBytes.{Consumes, IsAtEnd}
use Rattle.queue_calls.specs.Recordings.{IsFaultOf, IsFindingOf}
use Rattle.queue_calls.specs.declared.recordings.CallsFinding.{CallsFinding}
use Rattle.queue_calls.specs.declared.recordings.CallsFinding.TheVariants.{Lawful, OutOfTurn, NotLinearizable}
use Rattle.ring_program.proofs.FirstFaults.{holding_ends}
use Rattle.ring_program.specs.Readings.{EndsAtFirstFault, HasNoFault, IsFaultAhead, IsFaultless, IsFoundBy, IsFoundIn, calls_ending_of}
use Rattle.ring_program.specs.Texts.{calls_text_of}
use Rattle.ring_program.specs.declared.answers.Ending.TheVariants.{FaultFound}

-- bytes, a piece that was read in part, and then a line
pub around : (bytes piece read line rest more : List ℕ) → piece ≡ (read ++ line) ++ rest → (bytes ++ read) ++ (line ++ (rest ++ more)) ≡ bytes ++ (piece ++ more)
around bytes piece read line rest more is = grind (arith, append_assoc)

-- a piece that was read in part, and then a line
pub line_read : (piece read rest line more : List ℕ) → piece ≡ read ++ rest → rest ≡ line ++ more → piece ≡ (read ++ line) ++ more
line_read piece read rest line more one two = one ∙ ap (λ (t : List ℕ). read ++ t) two ∙ sym (append_assoc read line more)

-- what holds if something was found, and if nothing was
pub one_found : {X : Type 0} (o : Option X) (A : Type 0) (B : X → Type 0) (x : X) → o ≡ Some x → MatchOption o A B → B x
one_found None A B x is holds = absurd (none-some x is)
one_found (Some y) A B x is holds = subst B (same_Some y x is) holds

pub none_found : {X : Type 0} (o : Option X) (A : Type 0) (B : X → Type 0) → ((x : X) → o ≢ Some x) → MatchOption o A B → A
none_found None A B none holds = holds
none_found (Some x) A B none holds = absurd (none x refl)

-- what was read up to the first fault was to be read in this way
pub with_stop : {X E : Type 0} (r : Result (Option X) E) (A B S : Type 0) (C : X → Type 0) → S → IfOk r (λ f. MatchOption f (A × B) C)
    → IfOk r (λ f. MatchOption f (A × (S → B)) (λ x. S × C x))
with_stop (Ok None) A B S C stop is = (is.0, λ s. is.1)
with_stop (Ok (Some x)) A B S C stop is = (stop, is)
with_stop (Err e) A B S C stop is = tt

-- a fault is not a lawful finding
is_fault : (ended : List ℕ) (found : CallsFinding) → IsFaultOf ended (Some found) → IsFindingOf ended found × (calls_ending_of found ≡ FaultFound)
is_fault ended (Lawful report) is = absurd is
is_fault ended (OutOfTurn line) is = (is, refl)
is_fault ended (NotLinearizable line cause) is = (is, refl)

pub fault_ahead : (bytes ended rest whole later : List ℕ) (found : CallsFinding) → bytes ≡ ended ++ rest → bytes ++ later ≡ whole → IsFaultOf ended (Some found)
    → EndsAtFirstFault ended → IsFaultAhead whole found
fault_ahead bytes ended rest whole later found parts is fault first = grind (arith, is_fault, append_assoc)

-- the text of a fault does not depend on whether the recording is cut
same_text : (a b : Bool) (found : CallsFinding) → calls_ending_of found ≡ FaultFound → calls_text_of a found ≡ calls_text_of b found
same_text a b (Lawful report) is = cc
same_text a b (OutOfTurn line) is = refl
same_text a b (NotLinearizable line cause) is = refl

pub at_end : (stop : Bool) (bytes : List ℕ) (is_cut : Bool) (found : CallsFinding) → (stop ≡ true → IsFaultless bytes) → IsFoundIn bytes is_cut found → IsFoundBy stop bytes is_cut found
at_end false bytes is_cut found faultless is = is
at_end true bytes is_cut found faultless is = (bytes, [], sym (append-nil bytes), is, (λ over. refl), (λ fault. holding_ends HasNoFault bytes (faultless refl)))

pub at_fault : (stop : Bool) (bytes : List ℕ) (found : CallsFinding) → stop ≡ true → IsFaultAhead bytes found → IsFoundBy stop bytes false found
at_fault false bytes found is ahead = cc
at_fault true bytes found is (front, rest, parts, (capacity, events, recording, is_found), ends, first) = grind (arith, same_text)

-- what follows from the bytes of an input, if they are known
pub of_input : (input : Option (List ℕ)) (P Q : List ℕ → Type 0) → ((bytes : List ℕ) → P bytes → Q bytes) → IfSome input P → IfSome input Q
of_input None P Q follows holds = tt
of_input (Some bytes) P Q follows holds = follows bytes holds

-- ---- an input that is read in pieces

-- what holds for the bytes that came, whatever comes after them, holds for the input
pub of_front : (before after : Option (List ℕ)) (came : List ℕ) (P : List ℕ → Type 0) → Consumes before after came → ((more : List ℕ) → P (came ++ more)) → IfSome before P
of_front None after came P same holds = tt
of_front (Some bytes) None came P same holds = absurd same
of_front (Some bytes) (Some rest) came P same holds = subst P (sym same) (holds rest)

none_more : (count : ℕ) (piece came : List ℕ) → count ≡ 0 → came ++ take count piece ≡ came
none_more zero piece came same = append-nil came
none_more (suc count) piece came same = cc

-- what holds for the bytes that came holds for the input, if a read that returned none is at its end
pub of_whole : (before mid after : Option (List ℕ)) (came piece : List ℕ) (count : ℕ) (P : List ℕ → Type 0) → Consumes before mid came → Consumes mid after (take count piece) → count ≡ 0
    → IsAtEnd after → P came → IfSome before P
of_whole before mid after came piece count P had more none over holds = grind (arith, Consumes-whole, none_more, Consumes-trans)

-- a piece that is not empty adds to the bytes
pub one_more : (turns count : ℕ) (came piece : List ℕ) → turns ≤ length came → count ≢ 0 → count ≤ length piece → turns + 1 ≤ length (came ++ take count piece)
one_more turns count came piece before some within = omega (arith, before, some, within, length-append came (take count piece), length-take-le count piece within)

-- after as many turns as a number of 64 bits can count, at least that many bytes have come
pub all_turns : (turns : ℕ) (came more : List ℕ) → turns ≤ length came → 18446744073709551615 ≤ turns → 2 ^ 64 - 1 ≤ length (came ++ more)
all_turns turns came more read over = omega (arith, read, over, length-append came more)
