-- The lines of a recording's text: a word, and numbers in decimal, with one space between two of them.
use Rattle.std.specs.Prelude.{◌≡◌, ◌==◌, ℕ, ◌≤◌, ◌<◌, ◌^◌, if◌then◌else◌, Option, Some, None, List, [], ◌∷◌, ◌++◌, length, codes, decimal, All, flat_map}
use Rattle.call_lines.specs.declared.lines.Word.{Word}
use Rattle.call_lines.specs.declared.lines.Word.TheVariants.{Queue, Cut, Put, Stored, PutSome, Full, Short, PutNothing, PutClosed, Close, Take, Item, TakeSome, Empty, TakeShort, TakeNothing, TakeClosed}

-- the text of a word
abbrev pub word_text : Word → List ℕ
word_text Queue = codes "queue"
word_text Cut = codes "cut queue"
word_text Put = codes "P put"
word_text Stored = codes "P stored"
word_text PutSome = codes "P some"
word_text Full = codes "P full"
word_text Short = codes "P short"
word_text PutNothing = codes "P nothing"
word_text PutClosed = codes "P closed"
word_text Close = codes "P close"
word_text Take = codes "C take"
word_text Item = codes "C item"
word_text TakeSome = codes "C some"
word_text Empty = codes "C empty"
word_text TakeShort = codes "C short"
word_text TakeNothing = codes "C nothing"
word_text TakeClosed = codes "C closed"

-- the word of a number, by which a program identifies it: as the recorders number them, and then those of a first line
abbrev pub word_of : ℕ → Option Word
word_of n =
    if n == 0 then Some Put else
    if n == 1 then Some Close else
    if n == 2 then Some Take else
    if n == 3 then Some Stored else
    if n == 4 then Some PutSome else
    if n == 5 then Some Full else
    if n == 6 then Some Short else
    if n == 7 then Some PutNothing else
    if n == 8 then Some PutClosed else
    if n == 9 then Some Item else
    if n == 10 then Some TakeSome else
    if n == 11 then Some Empty else
    if n == 12 then Some TakeShort else
    if n == 13 then Some TakeNothing else
    if n == 14 then Some TakeClosed else
    if n == 15 then Some Queue else
    if n == 16 then Some Cut else
    None

-- numbers, with a space before each of them
abbrev pub numbers_text : List ℕ → List ℕ
numbers_text numbers = flat_map (λ n. codes " " ++ decimal n) numbers

-- a line, without its line feed
abbrev pub line_text : Word → List ℕ → List ℕ
line_text word numbers = word_text word ++ numbers_text numbers

-- the numbers that may state a capacity: none, its capacity, or two that its capacity lies between
abbrev pub AllowsQueue : List ℕ → Type 0
AllowsQueue [] = Unit {0}
AllowsQueue (most ∷ []) = 1 ≤ most
AllowsQueue (full ∷ most ∷ []) = full < most
AllowsQueue (full ∷ most ∷ other ∷ more) = ⊥

-- the numbers that may follow a word: for a queue those above; for a put and for a take that took items, the items; for a put that
-- ends, how many were stored; for a take, how many are requested, if more than one
abbrev pub Allows : Word → List ℕ → Type 0
Allows Queue numbers = AllowsQueue numbers
Allows Cut numbers = AllowsQueue numbers
Allows Put (item ∷ more) = Unit {0}
Allows Stored [] = Unit {0}
Allows Stored (count ∷ []) = 1 ≤ count
Allows PutSome (count ∷ []) = 1 ≤ count
Allows Full [] = Unit {0}
Allows Short [] = Unit {0}
Allows PutNothing [] = Unit {0}
Allows PutClosed [] = Unit {0}
Allows Close [] = Unit {0}
Allows Take [] = Unit {0}
Allows Take (count ∷ []) = 2 ≤ count
Allows Item (item ∷ more) = Unit {0}
Allows TakeSome (item ∷ more) = Unit {0}
Allows Empty [] = Unit {0}
Allows TakeShort [] = Unit {0}
Allows TakeNothing [] = Unit {0}
Allows TakeClosed [] = Unit {0}
Allows _ _ = ⊥

-- each number fits 64 bits
abbrev pub AreSmall : List ℕ → Type 0
AreSmall numbers = All (λ n. n < 2 ^ 64) numbers

-- bytes are the line with this word and these numbers
pub record IsLine (bytes : List ℕ) (word : Word) (numbers : List ℕ) : Type 0 where
  pub text : bytes ≡ line_text word numbers
  pub allowed : Allows word numbers
  pub small : AreSmall numbers

-- bytes begin with a word and more numbers than there is room for
pub record BeginsWithNumbers (room : ℕ) (bytes : List ℕ) : Type 0 where
  pub word : Word
  pub numbers : List ℕ
  pub rest : List ℕ
  pub parts : bytes ≡ line_text word numbers ++ rest
  pub small : AreSmall numbers
  pub more : room < length numbers
