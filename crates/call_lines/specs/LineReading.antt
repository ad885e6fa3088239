-- How a line is read: each part is what is at the front and the bytes after it, or there is none.
use Rattle.std.specs.Prelude.{◌≡◌, ℕ, Bool, true, false, List, codes, Option, Some, None}
use Rattle.line_parts.specs.Parts.{after, then_or_else, number_at}
use Rattle.call_lines.specs.declared.lines.Word.{Word}
use Rattle.call_lines.specs.declared.lines.Word.TheVariants.{Queue, Cut, Put, Stored, PutSome, Full, Short, PutNothing, PutClosed, Close, Take, Item, TakeSome, Empty, TakeShort, TakeNothing, TakeClosed}
use Rattle.call_lines.specs.Lines.{numbers_text, AreSmall}

-- this word, if its text is there, otherwise another
abbrev pub word_or : Word → List ℕ → List ℕ → Option (Word × List ℕ) → Option (Word × List ℕ)
word_or word text bytes other = then_or_else (after text bytes) (λ rest. Some (word, rest)) other

-- the word at the front of a line of the producer
abbrev pub put_word_at : List ℕ → Option (Word × List ℕ)
put_word_at bytes = word_or Put (codes "put") bytes (word_or Stored (codes "stored") bytes (word_or Full (codes "full") bytes (word_or Short (codes "short") bytes
    (word_or PutNothing (codes "nothing") bytes (word_or PutClosed (codes "closed") bytes (word_or Close (codes "close") bytes (word_or PutSome (codes "some") bytes None)))))))

-- the word at the front of a line of the consumer
abbrev pub take_word_at : List ℕ → Option (Word × List ℕ)
take_word_at bytes = word_or Take (codes "take") bytes (word_or Item (codes "item") bytes (word_or Empty (codes "empty") bytes
    (word_or TakeShort (codes "short") bytes (word_or TakeNothing (codes "nothing") bytes (word_or TakeClosed (codes "closed") bytes (word_or TakeSome (codes "some") bytes None))))))

-- the word at the front of a line
abbrev pub line_word_at : List ℕ → Option (Word × List ℕ)
line_word_at bytes =
    then_or_else (after (codes "P ") bytes) put_word_at (then_or_else (after (codes "C ") bytes) take_word_at
    (word_or Queue (codes "queue") bytes (word_or Cut (codes "cut queue") bytes None)))

-- whether bytes were read as numbers, and which these are
abbrev pub ReadsNumbers : List ℕ → Bool → List ℕ → Type 0
ReadsNumbers bytes true numbers = (bytes ≡ numbers_text numbers) × AreSmall numbers
ReadsNumbers bytes false numbers = (told : List ℕ) → AreSmall told → ¬ (bytes ≡ numbers_text told)

-- a number after a space
unfoldable pub spaced_number : List ℕ → Option (ℕ × List ℕ)
spaced_number bytes = then_or_else (after (codes " ") bytes) number_at None
