-- The text of a schedule: a sequence of parts, each a letter with or without a count.
use Rattle.std.specs.Prelude.{◌≡◌, ℕ, suc, ◌<◌, ◌≤◌, List, [], ◌∷◌, ◌++◌, replicate, if◌then◌else◌, ⊤}
use Rattle.std.specs.List.{flat_map}
use Rattle.std.specs.Str.Parse.{AllDigits, digits_value}
use Rattle.bits_core.specs.declared.events.Side.{Side}
use Rattle.bits_core.specs.declared.events.Side.TheVariants.{P, C}
use Rattle.ring_script.specs.ScheduleReading.{is_digit}
use Rattle.ring_script.specs.declared.schedules.LetterRun.{LetterRun}

-- the letter of each side: P and C
abbrev pub letter_of : Side → ℕ
letter_of P = 80
letter_of C = 67

-- no count, or one: a digit 1 to 9 and any further digits
abbrev pub IsLetterCount : List ℕ → Type 0
IsLetterCount [] = ⊤
IsLetterCount (first ∷ more) = (48 < first) × (first ≤ 57) × AllDigits 10 more

-- how many letters a count represents; no count represents one
abbrev pub letters_counted : List ℕ → ℕ
letters_counted [] = 1
letters_counted (first ∷ more) = digits_value 10 (first ∷ more)

-- a letter, with or without a count after it
pub record Part : Type 0 where
  pub side : Side
  pub count : List ℕ
  pub proper : IsLetterCount count

-- how a part is written
abbrev pub part_text : Part → List ℕ
part_text part = letter_of part.side ∷ part.count

-- the letters that a part represents
abbrev pub part_letters : Part → List Side
part_letters part = replicate (letters_counted part.count) part.side

-- the text is that of parts, which represent these letters
pub record IsSchedule (text : List ℕ) (letters : List Side) : Type 0 where
  pub parts : List Part
  pub written : text ≡ flat_map part_text parts
  pub spelled : letters ≡ flat_map part_letters parts

-- the text is that of a schedule
abbrev pub IsScheduleText : List ℕ → Type 0
IsScheduleText text = (letters : List Side) × IsSchedule text letters

-- the letters that runs represent
unfoldable pub spelled : List LetterRun → List Side
spelled [] = []
spelled (run ∷ runs) = replicate run.count run.side ++ spelled runs

-- how many runs begin in the rest of a text: one at each byte that is not a digit
unfoldable pub runs_in : List ℕ → ℕ
runs_in [] = 0
runs_in (b ∷ rest) = if is_digit b then runs_in rest else suc (runs_in rest)

-- how many runs a text has: one begins at its first byte, and one at each further byte that is not a digit
abbrev pub run_count : List ℕ → ℕ
run_count [] = 0
run_count (b ∷ rest) = suc (runs_in rest)
