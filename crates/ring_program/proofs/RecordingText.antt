-- The text of a line of a recording.
use Rattle.std.proofs.Common.{◌≡◌, ℕ, List, sym, append_assoc, codes}
use Rattle.call_lines.specs.Lines.{numbers_text, word_text}
use Rattle.queue_calls.specs.Recordings.{line, text_of}
use Rattle.call_lines.specs.declared.lines.Word.{Word}
use Rattle.ring_program.specs.Texts.{list_line}

pub line_is : (w : Word) (numbers : List ℕ) → list_line (word_text w) numbers ≡ text_of (line w numbers)
line_is w numbers = sym (append_assoc (word_text w) (numbers_text numbers) (codes "\n"))
