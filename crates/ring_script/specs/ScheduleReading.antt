-- How the text of a schedule is read, byte by byte; cited by private functions only.
use Rattle.std.specs.Prelude.{ℕ, suc, ◌+◌, ◌-◌, ◌*◌, ◌==◌, ◌&&◌, ◌||◌, Bool, not, nat_le, max, if◌then◌else◌, List, [], ◌∷◌, ◌++◌, replicate, Option, Some, None}
use Rattle.bits_core.specs.declared.events.Side.{Side}
use Rattle.bits_core.specs.declared.events.Side.TheVariants.{P, C}

-- whether the byte is P or C
abbrev pub is_letter : ℕ → Bool
is_letter b = b == 80 || b == 67

-- whether the byte is a digit
abbrev pub is_digit : ℕ → Bool
is_digit b = nat_le 48 b && nat_le b 57

-- whether the byte may come right after `before`, which is 0 at the start: a letter anywhere, a
-- digit after a letter or a digit, and 0 only after a digit
abbrev pub may_stand : ℕ → ℕ → Bool
may_stand before b = is_letter b || (is_digit b && (is_digit before || (is_letter before && not (b == 48))))

-- the place of the first byte that cannot come where it is, in a text that continues at `place`
unfoldable pub stray_from : ℕ → ℕ → List ℕ → Option ℕ
stray_from place before [] = None
stray_from place before (b ∷ rest) = if may_stand before b then stray_from (suc place) b rest else Some place

-- the place of the first byte of the text that cannot come where it is
abbrev pub stray_in : List ℕ → Option ℕ
stray_in text = stray_from 0 0 text

-- the side that a letter names
abbrev pub letter_side : ℕ → Side
letter_side b = if b == 80 then P else C

-- as many letters as the count says; one without a count
abbrev pub times : ℕ → Side → List Side
times count side = replicate (max 1 count) side

-- the letters of a text that continues after a letter and the digits of `count`, 0 if there were none
unfoldable pub letters_after : Side → ℕ → List ℕ → List Side
letters_after side count [] = times count side
letters_after side count (b ∷ rest) =
    if is_digit b then letters_after side (10 * count + (b - 48)) rest
    else times count side ++ letters_after (letter_side b) 0 rest

-- the letters that the text represents
unfoldable pub letters_of : List ℕ → List Side
letters_of [] = []
letters_of (b ∷ rest) = letters_after (letter_side b) 0 rest
