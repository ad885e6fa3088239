-- The lines of the text of a recorded register.
use Rattle.std.specs.Prelude.{◌≡◌, ℕ, ◌≤◌, ◌<◌, ◌^◌, List, ◌++◌, codes, decimal}
use Rattle.register_lines.specs.declared.lines.RegisterLine.{RegisterLine}
use Rattle.register_lines.specs.declared.lines.RegisterLine.TheVariants.{Register, Valued, Cut, CutValued, Write, Wrote, Read, Got}

-- a line, without its line feed
abbrev pub register_line_text : RegisterLine → List ℕ
register_line_text (Register first) = codes "register " ++ decimal first
register_line_text (Valued first values) = codes "register " ++ decimal first ++ codes " " ++ decimal values
register_line_text (Cut first) = codes "cut register " ++ decimal first
register_line_text (CutValued first values) = codes "cut register " ++ decimal first ++ codes " " ++ decimal values
register_line_text (Write value) = codes "W write " ++ decimal value
register_line_text Wrote = codes "W wrote"
register_line_text (Read reader) = codes "R" ++ decimal reader ++ codes " read"
register_line_text (Got reader value) = codes "R" ++ decimal reader ++ codes " got " ++ decimal value

-- the numbers that a line may have: they fit 64 bits, the first value is a value of the register, and readers are numbered from 1 to 64
abbrev pub AllowsNumbers : RegisterLine → Type 0
AllowsNumbers (Register first) = first < 2 ^ 64
AllowsNumbers (Valued first values) = (first < values) × (values < 2 ^ 64)
AllowsNumbers (Cut first) = first < 2 ^ 64
AllowsNumbers (CutValued first values) = (first < values) × (values < 2 ^ 64)
AllowsNumbers (Write value) = value < 2 ^ 64
AllowsNumbers Wrote = Unit {0}
AllowsNumbers (Read reader) = (1 ≤ reader) × (reader ≤ 64)
AllowsNumbers (Got reader value) = (1 ≤ reader) × (reader ≤ 64) × (value < 2 ^ 64)

-- bytes are this line
pub record IsRegisterLine (bytes : List ℕ) (line : RegisterLine) : Type 0 where
  pub text : bytes ≡ register_line_text line
  pub allowed : AllowsNumbers line
