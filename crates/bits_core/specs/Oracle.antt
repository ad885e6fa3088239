-- What the oracles answer.
use Rattle.std.specs.Prelude.{ℕ, ◌+◌, ◌%◌, ◌==◌, Bool, false, not, if◌then◌else◌, List, length, slice_index_or}
use Rattle.bits_core.specs.declared.oracles.Flip.{Flip}
use Rattle.bits_core.specs.declared.oracles.Tape.{Tape}

-- the answers in turn, starting again after the last; always 0 if there are none
abbrev pub turn : List Bool → ℕ → Bool
turn answers i = slice_index_or answers (i % length answers) false

-- answer number i from now of an oracle that changes its answer each time
abbrev pub flip_answer : Flip → ℕ → Bool
flip_answer flip i = if i % 2 == 0 then flip.next else not flip.next

-- answer number i from now of a tape
abbrev pub tape_answer : Tape → ℕ → Bool
tape_answer tape i = turn tape.answers.now (tape.place + i)
