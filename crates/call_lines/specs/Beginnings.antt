-- Prefixes of lines: what may still become a line, whatever comes next.
use Rattle.std.specs.Prelude.{◌≡◌, ◌≤◌, ◌-◌, ℕ, Bool, true, false, List, ◌++◌, Option, Some, None, length}
use Rattle.call_lines.specs.Lines.{line_text, numbers_text, word_text, AreSmall, IsLine}
use Rattle.call_lines.specs.LineReading.{line_word_at}
use Rattle.call_lines.specs.declared.lines.Word.{Word}
use Rattle.call_lines.specs.declared.lines.Word.TheVariants.{Queue, Cut, Put, Stored, PutSome, Take, Item, TakeSome}

-- whether a line with this word states the queue's capacity, as the first line of a recording does, and no other one
abbrev pub tells_queue : Word → Bool
tells_queue Queue = true
tells_queue Cut = true
tells_queue _ = false

-- how many numbers may follow a word at most; `None` if there is no limit
abbrev pub most_numbers : Word → Option ℕ
most_numbers Put = None
most_numbers Item = None
most_numbers TakeSome = None
most_numbers Queue = Some 2
most_numbers Cut = Some 2
most_numbers Stored = Some 1
most_numbers PutSome = Some 1
most_numbers Take = Some 1
most_numbers _ = Some 0

-- a number of numbers is within the limit, if there is one
abbrev pub IsAtMost : Option ℕ → ℕ → Type 0
IsAtMost None count = Unit {0}
IsAtMost (Some most) count = count ≤ most

-- how many may follow after one more
abbrev pub one_less : Option ℕ → Option ℕ
one_less None = None
one_less (Some most) = Some (most - 1)

-- with some bytes after them, these are the text of numbers, at most this many
pub record BeginsNumbers (most : Option ℕ) (bytes : List ℕ) : Type 0 where
  pub numbers : List ℕ
  pub rest : List ℕ
  pub parts : bytes ++ rest ≡ numbers_text numbers
  pub small : AreSmall numbers
  pub many : IsAtMost most (length numbers)

-- these bytes are a prefix of the text of a word that may come there
abbrev pub BeginsAWord : Bool → List ℕ → Type 0
BeginsAWord is_first bytes = (word : Word) × (tells_queue word ≡ is_first) × (rest : List ℕ) × (word_text word ≡ bytes ++ rest)

-- such a word is in front, followed by a prefix of numbers
abbrev pub BeginsAfterWord : Bool → List ℕ → Type 0
BeginsAfterWord is_first bytes = (word : Word) × (rest : List ℕ) × (line_word_at bytes ≡ Some (word, rest)) × (tells_queue word ≡ is_first) × BeginsNumbers (most_numbers word) rest

-- with some bytes after them, these are a word and no more numbers than may follow it: in the first line of a recording a word that
-- states the queue's capacity, in a further line another one
pub record BeginsLine (is_first : Bool) (bytes : List ℕ) : Type 0 where
  pub word : Word
  pub numbers : List ℕ
  pub rest : List ℕ
  pub parts : bytes ++ rest ≡ line_text word numbers
  pub place : tells_queue word ≡ is_first
  pub small : AreSmall numbers
  pub many : IsAtMost (most_numbers word) (length numbers)

-- whatever comes after these bytes, they do not become a line that may come there
abbrev pub BeginsNoLine : Bool → List ℕ → Type 0
BeginsNoLine is_first bytes = (rest : List ℕ) (word : Word) (numbers : List ℕ) → tells_queue word ≡ is_first → ¬ IsLine (bytes ++ rest) word numbers
