-- The text of a recording of a register, line by line: where a line ends, what its end shows, and that its lines are one list of lines.
use Rattle.std.proofs.Common.{◌≡◌, ◌≢◌, Bool, ℕ, ◌+◌, ◌-◌, ◌^◌, ◌<◌, ◌≤◌, List, [], ◌∷◌, ◌++◌, length, get_or, drop, refl, ap, sym, ◌∙◌, append_assoc, length-append, arith}
use Rattle.std.proofs.lemmas.Grind.{flat_map-append}
use Rattle.register_recordings.proofs.Common.{append-nil, ReaderState, Chain, Register, RegisterEvent, JudgedLines, ContinuesRegister, HasJudged, HasReadEvents, HasReadRegister, RefusesRegisterLine}
use Rattle.std.proofs.lemmas.List.Elements.{All-append, All-head, All-nil, All-tail}
use Rattle.line_parts.specs.LineEnds.{HasNoFeed}
use Rattle.line_parts.proofs.LineFeeds.{IsOther, feed_nowhere, feed_once}
use Rattle.register_lines.specs.Lines.{register_line_text, AllowsNumbers}
use Rattle.register_lines.specs.declared.lines.RegisterLine.{RegisterLine}
use Rattle.register_lines.proofs.LineLemmas.{line_limit, line_no_feed, line_same}
use Rattle.register_recordings.specs.declared.faults.RegisterTextFault.{RegisterTextFault}
use Rattle.register_recordings.specs.declared.faults.RegisterTextFault.TheVariants.{BadLine, TooLong, OutOfMemory}
use Rattle.register_recordings.specs.declared.findings.RegisterFinding.{RegisterFinding}
use Rattle.register_recordings.specs.declared.recordings.RegisterRecording.{RegisterRecording}
use Rattle.register_recordings.specs.Recordings.{lacks_operations, register_line_bytes, register_text, AreRegisterLines, IsBadRegisterLine, IsRegisterFinding, IsRegisterFound, IsRegisterRecording, RefusesRegisterText}
use Rattle.register_recordings.proofs.FurtherLines.{last_allowed}

-- ---- lines

-- the text of a line, and what comes after it
line_and : (l : RegisterLine) (more : List ℕ) → register_line_bytes l ++ more ≡ register_line_text l ++ 10 ∷ more
line_and l more = append_assoc (register_line_text l) (10 ∷ []) more

-- again, as register_lines keeps its own private
line_text_limit : (l : RegisterLine) → AllowsNumbers l → length (register_line_text l) ≤ 54
line_text_limit l allowed = line_limit (register_line_text l) l (record { text = refl; allowed = allowed })

-- again, as register_lines keeps its own private
no_feed_within : (l : RegisterLine) → AllowsNumbers l → HasNoFeed (register_line_text l)
no_feed_within l allowed = line_no_feed (register_line_text l) l (record { text = refl; allowed = allowed })

text_more : (before : List RegisterLine) (l : RegisterLine) → register_text (before ++ l ∷ []) ≡ register_text before ++ register_line_bytes l
text_more before l = flat_map-append register_line_bytes before (l ∷ []) ∙ ap (λ (t : List ℕ). register_text before ++ t) (append-nil (register_line_bytes l))

-- a line has a byte
many_bytes : (lines : List RegisterLine) → length lines ≤ length (register_text lines)
many_bytes [] = omega arith
many_bytes (l ∷ lines) = grind (arith, length-append, (many_bytes lines))

pub too_long : (before : List RegisterLine) (bytes more : List ℕ) → bytes ≡ register_text before ++ more → 2 ^ 64 - 1 ≤ length before → 2 ^ 64 - 1 ≤ length bytes
too_long before bytes more text long = grind (arith, length-append, many_bytes)

-- ---- a line that ends

-- the bytes of a line that ends, after lines
ended_text : (before : List RegisterLine) (bytes cut end more : List ℕ) → bytes ≡ register_text before ++ cut → bytes ++ (end ++ 10 ∷ more) ≡ register_text before ++ ((cut ++ end) ++ 10 ∷ more)
ended_text before bytes cut end more text = grind (arith, append_assoc)

module _ {W R P C B : Type 0} (window : W → List ℕ) (states : R → List ReaderState) (places : P → List ℕ) (chains : C → List Chain) (bytes_of : B → List ℕ) where
  -- nothing was read
  pub nothing_read : (new : RegisterRecording W R P C B) → bytes_of new.cut ≡ [] → HasJudged window states places chains new.lines [] → HasReadRegister window states places chains bytes_of new []
  nothing_read new none lines = grind arith

  -- a line was read, and no byte of another one
  pub line_ended :
      (old new : RegisterRecording W R P C B) (bytes end whole : List ℕ) (has : HasReadRegister window states places chains bytes_of old bytes) → whole ≡ bytes_of old.cut ++ end → bytes_of new.cut ≡ [] →
      (l : RegisterLine) × ContinuesRegister has.ended whole l × HasJudged window states places chains new.lines (has.ended ++ l ∷ []) → HasReadRegister window states places chains bytes_of new (bytes ++ end ++ 10 ∷ [])
  line_ended old new bytes end whole has all none (l, on, lines) = grind (arith, append-nil, append_assoc, ended_text, All-nil, text_more)

  -- more bytes of a line were kept
  pub bytes_kept :
      (old new : RegisterRecording W R P C B) (text bytes : List ℕ) (has : HasReadRegister window states places chains bytes_of old text) → HasNoFeed bytes → bytes_of new.cut ≡ bytes_of old.cut ++ bytes → length (bytes_of old.cut) + length bytes ≤ 54 →
      HasJudged window states places chains new.lines has.ended → HasReadRegister window states places chains bytes_of new (text ++ bytes)
  bytes_kept old new text bytes has free cut short lines =
      grind (arith, length-append (bytes_of old.cut) bytes, append_assoc (register_text has.ended) (bytes_of old.cut) bytes, All-append IsOther (bytes_of old.cut) bytes has.no_feed free)

-- ---- refusals

-- no line ends in bytes without a line feed, if it is shorter
-- again, since this crate does not depend on the text of traces
feed_later : (xs ys more others : List ℕ) → HasNoFeed xs → length ys < length xs → xs ++ more ≢ ys ++ 10 ∷ others
feed_later [] ys more others none fewer e = absurd (omega (arith, fewer))
feed_later (x ∷ xs) [] more others none fewer e = All-head IsOther x xs none (ap (λ (t : List ℕ). get_or t 0 0) e)
feed_later (x ∷ xs) (y ∷ ys) more others none fewer e = feed_later xs ys more others (All-tail IsOther x xs none) (omega (arith, fewer)) (ap (λ (t : List ℕ). drop 1 t) e)

-- bytes of a line that has not ended are a bad line if they are more than a line can have, whatever comes after them
pub long_bad :
    (before : List RegisterLine) (text cut bytes more : List ℕ) (number : ℕ) → text ≡ register_text before ++ cut → AreRegisterLines before → HasNoFeed cut → HasNoFeed bytes → length before + 1 ≡ number → 54 < length cut + length bytes →
    IsBadRegisterLine (text ++ (bytes ++ more)) number
long_bad before text cut bytes more number parts are none free is long =
    let all : length (cut ++ bytes) ≡ length cut + length bytes = length-append cut bytes in
    record {
      before = before;
      rest = (cut ++ bytes) ++ more;
      text = ap (λ (t : List ℕ). t ++ (bytes ++ more)) parts ∙ append_assoc (register_text before) cut (bytes ++ more) ∙ ap (λ (t : List ℕ). register_text before ++ t) (sym (append_assoc cut bytes more));
      are = are;
      is_number = is;
      is_bad = λ l others on e.
          let short : length (register_line_text l) ≤ 54 = line_text_limit l (last_allowed before l on) in
          feed_later (cut ++ bytes) (register_line_text l) more others (All-append IsOther cut bytes none free) (omega (arith, short, long, all)) (e ∙ line_and l others);
      is_there = λ nothing.
          let some : length ((cut ++ bytes) ++ more) ≡ 0 = ap (λ (t : List ℕ). length t) nothing in
          let parts_too : length ((cut ++ bytes) ++ more) ≡ length (cut ++ bytes) + length more = length-append (cut ++ bytes) more in
          absurd (omega (arith, long, all, some, parts_too));
    }

pub end_refused :
    (fault : RegisterTextFault) (before : List RegisterLine) (bytes cut end whole more : List ℕ) → bytes ≡ register_text before ++ cut → AreRegisterLines before → HasNoFeed cut → HasNoFeed end → whole ≡ cut ++ end →
    RefusesRegisterLine fault before whole → RefusesRegisterText fault (bytes ++ (end ++ 10 ∷ more))
end_refused (BadLine number) before bytes cut end whole more text are none free all refused =
    grind (arith, ended_text before bytes cut end more text, feed_once, All-append IsOther cut end none free, no_feed_within, last_allowed, line_and, length-append (cut ++ end) (10 ∷ more))
end_refused TooLong before bytes cut end whole more text are none free all refused = too_long before (bytes ++ (end ++ 10 ∷ more)) ((cut ++ end) ++ 10 ∷ more) (ended_text before bytes cut end more text) refused
end_refused OutOfMemory before bytes cut end whole more text are none free all refused = tt

-- at the end of the text
pub cut_bad : (before : List RegisterLine) (bytes cut : List ℕ) (number : ℕ) → bytes ≡ register_text before ++ cut → AreRegisterLines before → HasNoFeed cut → length before + 1 ≡ number → (cut ≡ [] → before ≡ []) → IsBadRegisterLine bytes number
cut_bad before bytes cut number text are none is there = record {
  before = before;
  rest = cut;
  text = text;
  are = are;
  is_number = is;
  is_bad = λ l more on e. feed_nowhere cut (register_line_text l) more none (e ∙ line_and l more);
  is_there = there;
}

-- ---- findings

module _ {W R P C : Type 0} (window : W → List ℕ) (states : R → List ReaderState) (places : P → List ℕ) (chains : C → List Chain) where
  pub found :
      (lines : JudgedLines W R P C) (finding : RegisterFinding) (ended : List RegisterLine) (bytes cut : List ℕ) → bytes ≡ register_text ended ++ cut → cut ≡ [] → ended ≢ [] → HasJudged window states places chains lines ended →
      ((events : List RegisterEvent) → HasReadEvents window states places chains lines lines.out_of_turn events → IsRegisterFound lines.witness.auditor.register events finding) → IsRegisterFinding bytes finding
  found lines finding [] bytes cut text none some has finds = absurd (some refl)
  found lines finding (head ∷ further) bytes cut text none some has finds =
      let read = has.events head further refl in
      grind (arith, append-nil)

-- ---- one list of lines

-- one line at the front of a text
front_same : (l m : RegisterLine) (a b : List ℕ) → AllowsNumbers l → AllowsNumbers m → register_line_bytes l ++ a ≡ register_line_bytes m ++ b → (l ≡ m) × (a ≡ b)
front_same l m a b one other e =
    let L : List ℕ = register_line_text l in
    let M : List ℕ = register_line_text m in
    let same = feed_once L M a b (no_feed_within l one) (no_feed_within m other) (sym (line_and l a) ∙ e ∙ line_and m b) in
    (line_same L l m (record { text = refl; allowed = one }) (record { text = same.0; allowed = other }), same.1)

module _ {W R P C : Type 0} (window : W → List ℕ) (states : R → List ReaderState) (places : P → List ℕ) (chains : C → List Chain) where
  one_cut :
      (lines : JudgedLines W R P C) (is_cut : Bool) (ended further : List RegisterLine) (head : RegisterLine) (cut rest : List ℕ) → HasJudged window states places chains lines ended → lacks_operations head ≡ is_cut →
      AllowsNumbers head → register_text ended ++ cut ≡ register_text (head ∷ further) ++ rest → HasNoFeed cut → lines.is_cut ≡ is_cut
  one_cut lines is_cut [] further head cut rest has gives allowed e none = grind (arith, (append_assoc (register_line_bytes head) (register_text further) rest), (feed_nowhere cut (register_line_text head) (register_text further ++ rest) none (e ∙ append_assoc (register_line_bytes head) (register_text further) rest ∙ line_and head (register_text further ++ rest))), (line_and head (register_text further ++ rest)))
  one_cut lines is_cut (l ∷ ended) further head cut rest has gives allowed e none =
      let same =
      front_same l head (register_text ended ++ cut) (register_text further ++ rest) has.are.0 allowed
      (sym (append_assoc (register_line_bytes l) (register_text ended) cut) ∙ e ∙ append_assoc (register_line_bytes head) (register_text further) rest) in
      let read = has.events l ended refl in
      sym read.1 ∙ ap (λ (x : RegisterLine). lacks_operations x) same.0 ∙ gives

  -- its first line says what that of every recording that the bytes begin with says
  pub cut_is :
      {B : Type 0} (bytes_of : B → List ℕ) (recording : RegisterRecording W R P C B) (bytes : List ℕ) → HasReadRegister window states places chains bytes_of recording bytes →
      (front rest : List ℕ) → bytes ≡ front ++ rest → (r : Register) (events : List RegisterEvent) (is : IsRegisterRecording front r events) → recording.lines.is_cut ≡ is.is_cut
  cut_is bytes_of recording bytes has front rest parts r events is =
      one_cut recording.lines is.is_cut has.ended is.further is.head (bytes_of recording.cut) rest has.lines is.gives_cut is.are.0
      (sym has.text ∙ parts ∙ ap (λ (t : List ℕ). t ++ rest) is.text) has.no_feed
