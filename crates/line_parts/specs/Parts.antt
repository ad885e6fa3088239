-- The parts of a line: each is what is at the front and the bytes after it, or there is none.
use Rattle.std.specs.Prelude.{ℕ, ◌+◌, ◌-◌, ◌*◌, ◌^◌, ◌==◌, nat_lt, if◌then◌else◌, List, [], ◌∷◌, length, take, drop, Option, Some, None}
use Rattle.std.specs.Char.{is_ascii_digit}
use Rattle.std.specs.Str.{bytes_eq}

-- the bytes after a text
abbrev pub after : List ℕ → List ℕ → Option (List ℕ)
after text bytes = if bytes_eq (take (length text) bytes) text then Some (drop (length text) bytes) else None

-- what the bytes after a text are read as, if the text is there, or what is read without it
abbrev pub then_or_else : {B : Type 0} → Option (List ℕ) → (List ℕ → Option B) → Option B → Option B
then_or_else (Some rest) f other = f rest
then_or_else None f other = other

-- a number that continues with the digits at the front, if it fits 64 bits, and the bytes after them
unfoldable pub digits_after : ℕ → List ℕ → Option (ℕ × List ℕ)
digits_after n [] = Some (n, [])
digits_after n (b ∷ rest) = if is_ascii_digit b then (if nat_lt (10 * n + (b - 48)) (2 ^ 64) then digits_after (10 * n + (b - 48)) rest else None) else Some (n, b ∷ rest)

-- a number that does not begin with 0, or 0
unfoldable pub number_at : List ℕ → Option (ℕ × List ℕ)
number_at [] = None
number_at (b ∷ rest) = if is_ascii_digit b then (if b == 48 then Some (0, rest) else digits_after (b - 48) rest) else None
