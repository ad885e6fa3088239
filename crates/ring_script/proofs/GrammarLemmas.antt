-- The reading of a schedule's text byte by byte agrees with its grammar.
use Rattle.std.proofs.Common.{rules, ◌≡◌, ◌∙◌, ◌≤◌, ◌<◌, ◌+◌, ◌*◌, ℕ, zero, suc, max, Bool, true, false, List, [], ◌∷◌, ◌++◌, length, take, Some, None, refl, sym, ap, ap₂, subst, arith, true≢false, ◌^◌, get_or}
use Rattle.std.specs.Prelude.{if◌then◌else◌, decimal}
use Rattle.std.proofs.lemmas.Fmt.{decimal_is_IsNumeral, first_decimal}
use Rattle.std.specs.List.{flat_map}
use Rattle.std.specs.Char.{digit_value}
use Rattle.std.specs.Str.Parse.{AllDigits, digits_value, digits_value_after}
use Rattle.std.proofs.lemmas.Str.{digit_value_digit}
use Rattle.std.proofs.lemmas.Str.Parse.{digit_from_value}
use Rattle.std.proofs.lemmas.List.{append-nil}
use Rattle.bits_core.specs.declared.events.Side.{Side}
use Rattle.ring_script.proofs.FirstLemmas.{at_once, of_form, one_further}
use Rattle.ring_script.specs.Faults.{IsFirstStray}
use Rattle.ring_script.specs.Schedule.{IsLetterCount, IsSchedule, IsScheduleText, Part, letters_counted, letter_of, part_letters, part_text}
use Rattle.ring_script.specs.ScheduleReading.{is_digit, is_letter, letters_after, letters_of, may_stand, letter_side, stray_from, stray_in, times}

-- ---- bytes that may come there

-- each byte may come after the one before it
abbrev pub Stands : ℕ → List ℕ → Type 0
Stands before [] = Unit {0}
Stands before (b ∷ rest) = (may_stand before b ≡ true) × Stands b rest

stands_at : (t : Bool) (place b : ℕ) (rest : List ℕ) → (if t then stray_from (suc place) b rest else Some place) ≡ None
    → (stray_from (suc place) b rest ≡ None → Stands b rest) → (t ≡ true) × Stands b rest
stands_at t place b rest h1 h2 = grind arith

stands_from : (place before : ℕ) (text : List ℕ) → stray_from place before text ≡ None → Stands before text
unfolding stray_from
stands_from place before [] e = tt
stands_from place before (b ∷ rest) e = stands_at (may_stand before b) place b rest e (stands_from (suc place) b rest)

stands_to : (place before : ℕ) (text : List ℕ) → Stands before text → stray_from place before text ≡ None
unfolding stray_from
stands_to place before [] s = refl
stands_to place before (b ∷ rest) s = rw s.0 (stands_to (suc place) b rest s.1)

stop_at : (t : Bool) (place before b p : ℕ) (rest : List ℕ) → may_stand before b ≡ t → (if t then stray_from (suc place) b rest else Some place) ≡ Some p
    → (stray_from (suc place) b rest ≡ Some p → (k : ℕ) × (p ≡ suc place + k) × IsFirstStray (Stands b) rest k)
    → (k : ℕ) × (p ≡ place + k) × IsFirstStray (Stands before) (b ∷ rest) k
stop_at true place before b p rest is e later = one_further (Stands before) (Stands b) b place (suc place) p rest refl (λ ys stands. (is, stands)) (λ ys s. s.1) (later e)
stop_at false place before b p rest is e later = at_once (Stands before) b place p rest e tt (λ s. true≢false (sym s.0 ∙ is))

stop_from : (place before p : ℕ) (text : List ℕ) → stray_from place before text ≡ Some p → (k : ℕ) × (p ≡ place + k) × IsFirstStray (Stands before) text k
unfolding stray_from
stop_from place before p [] e = cc
stop_from place before p (b ∷ rest) e = stop_at (may_stand before b) place before b p rest refl e (stop_from (suc place) b p rest)

first_stops : (t : Bool) (place before b : ℕ) (rest : List ℕ) → may_stand before b ≡ t → ¬ Stands before (b ∷ []) → (if t then stray_from (suc place) b rest else Some place) ≡ Some (place + 0)
first_stops t place before b rest h1 h2 = grind arith

stop_to : (place before k : ℕ) (text : List ℕ) → Stands before (take k text) → ¬ Stands before (take (suc k) text) → stray_from place before text ≡ Some (place + k)
unfolding stray_from
stop_to place before zero [] good bad = absurd (bad tt)
stop_to place before (suc k) [] good bad = absurd (bad tt)
stop_to place before zero (b ∷ rest) good bad = first_stops (may_stand before b) place before b rest refl bad
stop_to place before (suc k) (b ∷ rest) good bad =
    rw good.0 (stop_to (suc place) b k rest good.1 (λ s. bad (good.0, s)) ∙ ap Some (omega arith))

-- ---- digits and letters

digit_is : (c : ℕ) → 48 ≤ c → c ≤ 57 → is_digit c ≡ true
digit_is c low high = grind arith

no_digit : (c : ℕ) → is_digit c ≡ false → is_letter c ≡ false → (before : ℕ) → may_stand before c ≡ false
no_digit c d l before = rw (l, d) refl

digit_range : (c : ℕ) → is_digit c ≡ true → (48 ≤ c) × (c ≤ 57)
digit_range c e = (grind arith, grind arith)

digit_below : (c : ℕ) → 48 ≤ c → c ≤ 57 → digit_value c < 10
digit_below c low high = omega (arith, digit_value_digit c (low, high))

letter_stands : (before : ℕ) (s : Side) → may_stand before (letter_of s) ≡ true
letter_stands before s = grind arith

side_letter : (s : Side) → letter_side (letter_of s) ≡ s
side_letter s = grind arith

digit_after_digit : (before c : ℕ) → is_digit before ≡ true → is_digit c ≡ true → may_stand before c ≡ true
digit_after_digit before c b d = grind arith

letter_back : (b : ℕ) → is_letter b ≡ true → b ≡ letter_of (letter_side b)
letter_back b l = grind arith

-- ---- parts are read

digits_stand : (ds : List ℕ) → AllDigits 10 ds → (before : ℕ) → is_digit before ≡ true → (rest : List ℕ) → ((b : ℕ) → Stands b rest) → Stands before (ds ++ rest)
digits_stand [] d before e rest h = h before
digits_stand (c ∷ cs) d before e rest h =
    let range = digit_from_value c d.0 in
    let digit : is_digit c ≡ true = digit_is c range.0 range.1 in
    (digit_after_digit before c e digit, digits_stand cs d.1 c digit rest h)

count_stands : (s : Side) (ds : List ℕ) → IsLetterCount ds → (rest : List ℕ) → ((b : ℕ) → Stands b rest) → Stands (letter_of s) (ds ++ rest)
count_stands s ds h1 rest h2 = grind (arith, rules, digit_is, digits_stand)

parts_stand : (ps : List Part) (before : ℕ) → Stands before (flat_map part_text ps)
parts_stand [] before = tt
parts_stand (p ∷ ps) before = (letter_stands before p.side, count_stands p.side p.count p.proper (flat_map part_text ps) (parts_stand ps))

digits_letters : (s : Side) (n : ℕ) (ds : List ℕ) → AllDigits 10 ds → (rest : List ℕ) → letters_after s n (ds ++ rest) ≡ letters_after s (digits_value_after 10 n ds) rest
unfolding letters_after
digits_letters s n [] d rest = refl
digits_letters s n (c ∷ cs) d rest = grind (arith, digit_from_value, digit_is, digit_value_digit, (digits_letters s (n * 10 + digit_value c) cs d.1 rest))

value_grows : (n : ℕ) (ds : List ℕ) → n ≤ digits_value_after 10 n ds
value_grows n [] = omega arith
value_grows n (c ∷ cs) = omega (arith, value_grows (n * 10 + digit_value c) cs)

count_is : (ds : List ℕ) → IsLetterCount ds → max 1 (digits_value_after 10 0 ds) ≡ letters_counted ds
count_is ds h1 = grind (arith, digit_value_digit, value_grows)

count_digits : (ds : List ℕ) → IsLetterCount ds → AllDigits 10 ds
count_digits ds h1 = grind arith

parts_letters : (s : Side) (n : ℕ) (ps : List Part) → letters_after s n (flat_map part_text ps) ≡ times n s ++ flat_map part_letters ps
unfolding letters_after
parts_letters s n [] = sym (append-nil (times n s))
parts_letters s n (p ∷ ps) = grind (arith, count_digits, count_is, digits_letters, side_letter, (parts_letters p.side (digits_value_after 10 0 p.count) ps))

parts_spell : (ps : List Part) → letters_of (flat_map part_text ps) ≡ flat_map part_letters ps
unfolding letters_of
parts_spell [] = refl
parts_spell (p ∷ ps) = grind (arith, count_digits, count_is, digits_letters, parts_letters, side_letter)

-- ---- what is read is parts

abbrev Opens : ℕ → List ℕ → Type 0
Opens before [] = Unit {0}
Opens before (b ∷ more) = may_stand before b ≡ true

record Front (before : ℕ) (text : List ℕ) : Type 0 where
  digits : List ℕ
  parts : List Part
  written : text ≡ digits ++ flat_map part_text parts
  all_digits : AllDigits 10 digits
  opens : Opens before digits

proper_from : (b : ℕ) → is_letter b ≡ true → (ds : List ℕ) → Opens b ds → AllDigits 10 ds → IsLetterCount ds
proper_from b h1 ds h2 h3 = grind (arith, digit_from_value)

front_at : (letter digit : Bool) (before b : ℕ) (rest : List ℕ) → is_letter b ≡ letter → is_digit b ≡ digit → may_stand before b ≡ true → Front b rest → Front before (b ∷ rest)
front_at true digit before b rest l d stands later = record {
  digits = [];
  parts = record { side = letter_side b; count = later.digits; proper = proper_from b l later.digits later.opens later.all_digits } ∷ later.parts;
  written = ap₂ (λ (c : ℕ) (t : List ℕ). c ∷ t) (letter_back b l) later.written;
  all_digits = tt;
  opens = tt;
}
front_at false true before b rest l d stands later =
    let range = digit_range b d in
    record {
      digits = b ∷ later.digits;
      parts = later.parts;
      written = ap (λ (t : List ℕ). b ∷ t) later.written;
      all_digits = (digit_below b range.0 range.1, later.all_digits);
      opens = stands;
    }
front_at false false before b rest l d stands later = absurd (true≢false (sym stands ∙ no_digit b d l before))

front_from : (before : ℕ) (text : List ℕ) → Stands before text → Front before text
front_from before [] s = record { digits = []; parts = []; written = refl; all_digits = tt; opens = tt }
front_from before (b ∷ rest) s = front_at (is_letter b) (is_digit b) before b rest refl refl s.0 (front_from b rest s.1)

parts_at : (text ds : List ℕ) (ps : List Part) → text ≡ ds ++ flat_map part_text ps → AllDigits 10 ds → Opens 0 ds → text ≡ flat_map part_text ps
parts_at text ds ps h1 h2 h3 = grind (arith, digit_from_value)

schedule_stands : (text : List ℕ) (letters : List Side) → IsSchedule text letters → Stands 0 text
schedule_stands text letters s = subst (λ (t : List ℕ). Stands 0 t) (sym s.written) (parts_stand s.parts 0)

stands_schedule : (text : List ℕ) → Stands 0 text → IsSchedule text (letters_of text)
stands_schedule text s = search (rules, front_from, parts_at, parts_spell)

-- ---- the grammar

-- a schedule has no stray byte, and represents the letters that are read
pub schedule_clean : (text : List ℕ) (letters : List Side) → IsSchedule text letters → stray_in text ≡ None
schedule_clean text letters s = stands_to 0 0 text (schedule_stands text letters s)

pub schedule_spells : (text : List ℕ) (letters : List Side) → IsSchedule text letters → letters ≡ letters_of text
schedule_spells text letters s = s.spelled ∙ sym (ap letters_of s.written ∙ parts_spell s.parts)

pub clean_schedule : (text : List ℕ) → stray_in text ≡ None → IsSchedule text (letters_of text)
clean_schedule text e = stands_schedule text (stands_from 0 0 text e)

-- the first stray byte is the one at which the grammar ends
pub stray_is : (text : List ℕ) (place : ℕ) → stray_in text ≡ Some place → IsFirstStray IsScheduleText text place
stray_is text place e =
    of_form (Stands 0) IsScheduleText place text (λ t stands. (letters_of t, stands_schedule t stands)) (λ t is. schedule_stands t is.0 is.1) (stop_from 0 0 place text e)

pub stray_found : (text : List ℕ) (place : ℕ) → IsFirstStray IsScheduleText text place → stray_in text ≡ Some place
stray_found text place s =
    stop_to 0 0 place text (schedule_stands (take place text) s.before.0 s.before.1) (λ stands. s.no_more (letters_of (take (suc place) text), stands_schedule (take (suc place) text) stands))
    ∙ ap Some (omega arith)

-- what is written for a number from 1 on is a count
count_at : (ds : List ℕ) (n : ℕ) → 0 < length ds → AllDigits 10 ds → 48 < get_or ds 0 0 → digits_value 10 ds ≡ n → IsLetterCount ds × (letters_counted ds ≡ n)
count_at ds n h1 h2 h3 h4 = grind arith

pub decimal_is_count : (n : ℕ) → 0 < n → n < 2 ^ 64 → IsLetterCount (decimal n) × (letters_counted (decimal n) ≡ n)
decimal_is_count n some small = grind (arith, (decimal_is_IsNumeral n small), (first_decimal n some small), count_at)
