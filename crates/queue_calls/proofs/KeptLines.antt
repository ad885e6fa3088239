-- The bytes of a line that has not ended: what is kept of them, and when they begin no line.
use Rattle.std.proofs.Common.{◌≡◌, ◌≢◌, inl, inr, Bool, true, false, ℕ, ◌+◌, ◌*◌, ◌<◌, List, [], ◌∷◌, ◌++◌, length, get_or, refl, ap, sym, subst, ◌∙◌, append_assoc, length-append, arith}
use Rattle.std.specs.Prelude.{◌==◌, All}
use Rattle.queue_calls.proofs.Common.{take-length, nat_tests, All-append, All-head, All-tail, line_text, IsLine, Word, Line, first_word, lines_text, AreLines, IsBadLine, Offered, Taken}
use Rattle.std.proofs.lemmas.List.{nil_from_length, take-append-le}
use Rattle.call_lines.specs.Beginnings.{BeginsLine, BeginsNoLine, tells_queue}
use Rattle.call_lines.specs.declared.lines.Word.TheVariants as word
use Rattle.call_lines.proofs.BeginningLemmas.{nothing_begun, split}
use Rattle.line_parts.specs.LineEnds.{HasNoFeed}
use Rattle.queue_calls.specs.RecordingStates.{HasLines, HasRead, KeepsBeginning}
use Rattle.queue_calls.specs.declared.recordings.RecordingIn.{RecordingIn}
use Rattle.queue_calls.proofs.HeardLines.{is_line}
use Rattle.line_parts.proofs.LineFeeds.{feed_nowhere}
use Rattle.queue_calls.proofs.RecordingLemmas.{line_and}

-- only a few more bytes
pub still_begins : (is_first : Bool) (begun : ℕ) (cut bytes : List ℕ) → KeepsBeginning is_first begun cut → length (cut ++ bytes) < 2 * begun + 65536 → KeepsBeginning is_first begun (cut ++ bytes)
still_begins is_first begun cut bytes keeps few = grind (arith, length, length-append, take-append-le)

-- all of them
pub all_begins : (is_first : Bool) (cut : List ℕ) → BeginsLine is_first cut → KeepsBeginning is_first (length cut) cut
all_begins is_first cut begins = record { within = omega arith; begins = subst (BeginsLine is_first) (sym (take-length cut)) begins; few = omega arith }

-- more bytes were kept
pub bytes_kept :
    {S O T N B : Type 0} (offered : O → List Offered) (last : T → List Taken) (bytes_of : B → List ℕ) (old new : RecordingIn S O T N B) (text bytes : List ℕ) (has : HasRead offered last bytes_of old text) → HasNoFeed bytes →
    bytes_of new.cut ≡ bytes_of old.cut ++ bytes → HasLines offered last new.lines has.ended → KeepsBeginning (length has.ended == 0) new.begun (bytes_of new.cut) → HasRead offered last bytes_of new (text ++ bytes)
bytes_kept offered last bytes_of old new text bytes has free cut lines begins = record {
  ended = has.ended;
  text = ap (λ (t : List ℕ). t ++ bytes) has.text ∙ append_assoc (lines_text has.ended) (bytes_of old.cut) bytes ∙ ap (λ (t : List ℕ). lines_text has.ended ++ t) (sym cut);
  no_feed = subst HasNoFeed (sym cut) (All-append (λ b. b ≢ 10) (bytes_of old.cut) bytes has.no_feed free);
  lines = lines;
  begins = begins;
}

-- ---- no line

last_of : (P : Line → Type 0) (lines : List Line) (l : Line) → All P (lines ++ l ∷ []) → P l
last_of P [] l all = All-head P l [] all
last_of P (first ∷ lines) l all = last_of P lines l (All-tail P first (lines ++ l ∷ []) all)

first_tells : (is_cut : Bool) → tells_queue (first_word is_cut) ≡ true
first_tells is_cut = grind arith

other_tells : (w : Word) → ((is_cut : Bool) → w ≢ first_word is_cut) → tells_queue w ≡ false
other_tells word.Queue other = absurd (other false refl)
other_tells word.Cut other = absurd (other true refl)
other_tells w other = refl

-- the first line has the capacity, and no other one
place_of : (before : List Line) (l : Line) → AreLines (before ++ l ∷ []) → tells_queue l.word ≡ (length before == 0)
place_of [] l are = ap tells_queue are.0.1 ∙ first_tells are.0.0
place_of (first ∷ further) l are = grind (arith, length, nat_tests, other_tells, last_of)

fed : (rest more others : List ℕ) → rest ≢ [] → rest ++ more ≡ 10 ∷ others → (left : List ℕ) × (rest ≡ 10 ∷ left)
fed [] more others some e = absurd (some refl)
fed (b ∷ rest) more others some e = (rest, ap (λ (c : ℕ). c ∷ rest) (ap (λ (t : List ℕ). get_or t 0 0) e))

-- bytes after lines that become no line, whatever comes next, are a bad line
pub begins_bad :
    (before : List Line) (text cut bytes more : List ℕ) (number : ℕ) → text ≡ lines_text before ++ cut → AreLines before → HasNoFeed cut → HasNoFeed bytes → length before + 1 ≡ number →
    ¬ BeginsLine (length before == 0) (cut ++ bytes) → BeginsNoLine (length before == 0) (cut ++ bytes) → IsBadLine (text ++ (bytes ++ more)) number
begins_bad before text cut bytes more number parts are none free is other never = record {
  before = before;
  rest = (cut ++ bytes) ++ more;
  text = ap (λ (t : List ℕ). t ++ (bytes ++ more)) parts ∙ append_assoc (lines_text before) cut (bytes ++ more) ∙ ap (λ (t : List ℕ). lines_text before ++ t) (sym (append_assoc cut bytes more));
  are = are;
  is_number = is;
  is_bad = λ l others on e.
      let L : List ℕ = line_text l.word l.numbers in
      elim (split (cut ++ bytes) more L (10 ∷ others) (e ∙ line_and l others)) [
        | inl k ↦ never k.0 l.word l.numbers (place_of before l on) (subst (λ (t : List ℕ). IsLine t l.word l.numbers) k.1 (is_line before L l (on, refl)))
        | inr k ↦
            let feed = fed k.0 more others k.1 k.3 in
            feed_nowhere (cut ++ bytes) L feed.0 (All-append (λ b. b ≢ 10) cut bytes none free) (k.2 ∙ ap (λ (t : List ℕ). L ++ t) feed.1)
      ];
  is_there = λ nothing.
      let empty : cut ++ bytes ≡ [] = nil_from_length (cut ++ bytes) (omega (arith, length-append (cut ++ bytes) more, ap length nothing)) in
      absurd (other (subst (BeginsLine (length before == 0)) (sym empty) (nothing_begun (length before == 0))));
}
