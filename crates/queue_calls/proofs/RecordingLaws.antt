-- The lines of a text are one list of lines.
use Rattle.std.proofs.Common.{◌≡◌, ◌≢◌, Bool, true, false, ℕ, List, [], ◌∷◌, ◌++◌, length, drop, refl, ap, ap₂, sym, subst, ◌∙◌, append_assoc, length-append, arith}
use Rattle.queue_calls.proofs.Common.{All, All-cons, All-head, All-nil, All-tail, line_text, IsLine, Line, line, first_word, text_of, lines_text, IsOfFormat, IsFurther, AreLines, capacity_told}
use Rattle.queue_calls.proofs.Common.{events_told, IsRecording, IsBadLine, HasRead, HeardLines, Event, Capacity, Offered, Taken, Word, Hearing}
use Rattle.std.proofs.lemmas.List.{append-nil}
use Rattle.line_parts.specs.LineEnds.{HasNoFeed}
use Rattle.queue_calls.specs.RecordingLaws.{RecordingIsOne, RecordingHasNoBadLine}
use Rattle.call_lines.specs.declared.lines.Word.TheVariants as word
use Rattle.queue_calls.specs.declared.hearings.Begun.TheVariants.{Nothing}
use Rattle.queue_calls.specs.declared.recordings.RecordingIn.{RecordingIn}
use Rattle.call_lines.proofs.LineLemmas.{line_same, line_no_feed}
use Rattle.line_parts.proofs.LineFeeds.{feed_nowhere, feed_once}
use Rattle.queue_calls.proofs.RecordingLemmas.{line_and}

-- well-formed lines are in the format
are_of_format : (lines : List Line) → AreLines lines → All IsOfFormat lines
are_of_format lines are = grind (arith, All-nil, All-cons)

-- the line of its own text
its_line : (l : Line) → IsOfFormat l → IsLine (line_text l.word l.numbers) l.word l.numbers
its_line l is = record { text = refl; allowed = is.0; small = is.1 }

-- one line at the front of a text
front_same : (l m : Line) (a b : List ℕ) → IsOfFormat l → IsOfFormat m → text_of l ++ a ≡ text_of m ++ b → (l ≡ m) × (a ≡ b)
front_same l m a b one other e =
    let L : List ℕ = line_text l.word l.numbers in
    let M : List ℕ = line_text m.word m.numbers in
    let same = feed_once L M a b (line_no_feed L l.word l.numbers (its_line l one)) (line_no_feed M m.word m.numbers (its_line m other)) (sym (line_and l a) ∙ e ∙ line_and m b) in
    let parts = line_same L l.word m.word l.numbers m.numbers (its_line l one) (record { text = same.0; allowed = other.0; small = other.1 }) in
    (ap₂ line parts.0 parts.1, same.1)

-- lines at the front of the text of lines are its first ones
first_ones : (before all : List Line) (rest : List ℕ) → All IsOfFormat before → All IsOfFormat all → lines_text before ++ rest ≡ lines_text all
    → (more : List Line) × (all ≡ before ++ more) × (rest ≡ lines_text more)
first_ones [] all rest is are e = (all, refl, e)
first_ones (l ∷ before) [] rest is are e = grind (arith, length, length-append)
first_ones (l ∷ before) (m ∷ all) rest is are e =
    let same = front_same l m (lines_text before ++ rest) (lines_text all) (All-head IsOfFormat l before is) (All-head IsOfFormat m all are) (sym (append_assoc (text_of l) (lines_text before) rest) ∙ e) in
    let later = first_ones before all rest (All-tail IsOfFormat l before is) (All-tail IsOfFormat m all are) same.1 in
    (later.0, ap₂ (λ (x : Line) (xs : List Line). x ∷ xs) (sym same.0) later.1, later.2)

no_lines : (lines : List Line) → [] ≡ lines_text lines → lines ≡ []
no_lines [] e = refl
no_lines (l ∷ lines) e = grind (arith, length, length-append)

-- ---- one recording

numbers_of_first : List Line → List ℕ
numbers_of_first [] = []
numbers_of_first (l ∷ lines) = l.numbers

pub recording_is_one : RecordingIsOne
unfolding numbers_of_first
recording_is_one bytes capacity other events others one two =
    let all : List Line = line (first_word one.is_cut) one.first ∷ one.further in
    let too : List Line = line (first_word two.is_cut) two.first ∷ two.further in
    let parts = first_ones all too [] (are_of_format all one.are) (are_of_format too two.are) (append-nil (lines_text all) ∙ sym one.text ∙ two.text) in
    let same : too ≡ all = parts.1 ∙ ap (λ (t : List Line). all ++ t) (no_lines parts.0 parts.2) ∙ append-nil all in
    let firsts : two.first ≡ one.first = ap numbers_of_first same in
    let furthers : two.further ≡ one.further = ap (drop 1) same in
    (one.tells_capacity ∙ ap capacity_told (sym firsts) ∙ sym two.tells_capacity, one.tells_events ∙ ap (events_told Nothing) (sym furthers) ∙ sym two.tells_events)

-- ---- the first line

-- whether the first line says that calls are missing
cut_of : Word → Bool
cut_of word.Cut = true
cut_of _ = false

cut_first : List Line → Bool
cut_first [] = false
cut_first (l ∷ lines) = cut_of l.word

cut_is : (is_cut : Bool) → cut_of (first_word is_cut) ≡ is_cut
unfolding cut_of
cut_is true = refl
cut_is false = refl

module _ {S O T N B : Type 0} (offered : O → List Offered) (last : T → List Taken) (hearing : Hearing S O T N B) where
  one_cut :
      (lacks is_cut : Bool) (ended more further : List Line) (first cut : List ℕ) → (ended ≢ [] → HeardLines offered last hearing lacks ended) →
      line (first_word is_cut) first ∷ further ≡ ended ++ more → cut ≡ lines_text more → HasNoFeed cut → lacks ≡ is_cut
  unfolding cut_first
  one_cut lacks is_cut [] more further first cut heard parts rest none =
      let l : Line = line (first_word is_cut) first in
      absurd (feed_nowhere cut (line_text l.word l.numbers) (lines_text further) none (rest ∙ ap lines_text (sym parts) ∙ line_and l (lines_text further)))
  one_cut lacks is_cut (l ∷ ended) more further first cut heard parts rest none =
      let lines = heard (λ e. absurd (omega (arith, ap length e))) in
      sym (cut_is lacks) ∙ sym (ap cut_first lines.2) ∙ sym (ap cut_first parts) ∙ cut_is is_cut

-- it says what every recording with these bytes says
pub told_cut :
    {S O T N B : Type 0} (offered : O → List Offered) (last : T → List Taken) (bytes_of : B → List ℕ) (recording : RecordingIn S O T N B) (bytes : List ℕ) → HasRead offered last bytes_of recording bytes →
    (capacity : Capacity) (events : List Event) (is : IsRecording bytes capacity events) → recording.lines.lacks_calls ≡ is.is_cut
told_cut offered last bytes_of recording bytes has capacity events is =
    let all : List Line = line (first_word is.is_cut) is.first ∷ is.further in
    let parts = first_ones has.ended all (bytes_of recording.cut) (are_of_format has.ended has.lines.are) (are_of_format all is.are) (sym has.text ∙ is.text) in
    one_cut offered last recording.lines.hearing recording.lines.lacks_calls is.is_cut has.ended parts.0 is.further is.first (bytes_of recording.cut) has.lines.heard parts.1 parts.2 has.no_feed

-- ---- no bad line

-- the first ones of well-formed lines
all_first : (xs ys : List Line) → All IsFurther (xs ++ ys) → All IsFurther xs
all_first [] ys all = All-nil IsFurther
all_first (x ∷ xs) ys all = All-cons IsFurther x xs (All-head IsFurther x (xs ++ ys) all) (all_first xs ys (All-tail IsFurther x (xs ++ ys) all))

are_first : (before more : List Line) → AreLines (before ++ more) → AreLines before
are_first [] more are = tt
are_first (first ∷ further) more are = (are.0, are.1, all_first further more are.2)

no_more : (bytes : List ℕ) (number : ℕ) (all : List Line) (bad : IsBadLine bytes number) (more : List Line) → AreLines all → all ≢ [] → all ≡ bad.before ++ more → bad.rest ≡ lines_text more → ⊥
no_more bytes number all bad [] are some parts rest = some (parts ∙ append-nil bad.before ∙ bad.is_there rest)
no_more bytes number all bad (l ∷ more) are some parts rest =
    bad.is_bad l (lines_text more) (are_first (bad.before ++ l ∷ []) more (subst AreLines (parts ∙ sym (append_assoc bad.before (l ∷ []) more)) are)) rest

pub recording_has_no_bad_line : RecordingHasNoBadLine
recording_has_no_bad_line bytes capacity events number is bad =
    let all : List Line = line (first_word is.is_cut) is.first ∷ is.further in
    let parts = first_ones bad.before all bad.rest (are_of_format bad.before bad.are) (are_of_format all is.are) (sym bad.text ∙ is.text) in
    no_more bytes number all bad parts.0 is.are (λ none. absurd (omega (arith, ap length none))) parts.1 parts.2
