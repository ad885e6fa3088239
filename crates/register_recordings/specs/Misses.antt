-- The finding on the classes that a recorded history lacks, and its text.
use Rattle.std.specs.Prelude.{◌≡◌, ℕ, ◌+◌, ◌==◌, Bool, true, false, List, [], ◌∷◌, ◌++◌, Option, Some, None, codes, decimal, length, reverse, slice_index_or}
use Rattle.register_calls.specs.declared.chains.Chain.{Chain}
use Rattle.register_calls.specs.declared.events.Class.{Class}
use Rattle.register_calls.specs.declared.events.Class.TheVariants.{Safe, Regular, AtomicByReader, Atomic}
use Rattle.register_calls.specs.declared.events.Register.{Register}
use Rattle.register_calls.specs.declared.events.RegisterEvent.{RegisterEvent}
use Rattle.register_calls.specs.declared.events.RegisterEvent.TheVariants.{ReadEnds}
use Rattle.register_calls.specs.declared.reasons.EarlierRead.{EarlierRead}
use Rattle.register_calls.specs.declared.reasons.MissReason.{MissReason}
use Rattle.register_calls.specs.declared.reasons.MissReason.TheVariants.{NoValue, Held, NotWritten, Inverted}
use Rattle.register_calls.specs.Classes.{HasClass}
use Rattle.register_calls.specs.Findings.{IsFirstMiss}
use Rattle.register_calls.specs.Witnesses.{IsShownReason}
use Rattle.register_recordings.specs.declared.findings.RegisterMiss.{RegisterMiss}
use Rattle.register_recordings.specs.declared.findings.Misses.{Misses}

-- the end of the read on this line is the first event at which the history lacks a class, and this contradicts it
pub record IsMissFound (c : Class) (r : Register) (events : List RegisterEvent) (miss : RegisterMiss) : Type 0 where
  pub before : List RegisterEvent
  pub rest : List RegisterEvent
  pub parts : events ≡ before ++ ReadEnds miss.reader miss.value ∷ rest
  pub line : miss.line ≡ length before + 2
  pub first : IsFirstMiss c r events (length before)
  pub reason : IsShownReason c r (reverse before) miss.reader miss.value miss.reason

-- the history has the class, or this is the first read at which it lacks it
abbrev pub IsMissOf : Class → Register → List RegisterEvent → Option RegisterMiss → Type 0
IsMissOf c r events None = HasClass c r (reverse events)
IsMissOf c r events (Some miss) = IsMissFound c r events miss

-- for each class, the first read at which the history lacks it
pub record AreMisses (r : Register) (events : List RegisterEvent) (misses : Misses) : Type 0 where
  pub safe : IsMissOf Safe r events misses.safe
  pub regular : IsMissOf Regular r events misses.regular
  pub by_reader : IsMissOf AtomicByReader r events misses.by_reader
  pub atomic : IsMissOf Atomic r events misses.atomic

-- whether two classes are both missed, and at the same line
abbrev pub is_same_line : Option RegisterMiss → Option RegisterMiss → Bool
is_same_line (Some a) (Some b) = a.line == b.line
is_same_line _ _ = false

-- ---- text

-- the event at a place, from 0, is on this line
-- again, as ring_program, far above this crate, has it for the lines of a trace
abbrev pub place_words : ℕ → List ℕ
place_words place = codes " line " ++ decimal (place + 2)

-- readers are numbered from 1 in the text
abbrev pub reader_words : ℕ → List ℕ
reader_words reader = codes "R" ++ decimal (reader + 1)

-- the first of the reads that a reason reports
abbrev pub first_read_words : Option EarlierRead → List ℕ
first_read_words None = codes ", but an earlier read gave a later value"
first_read_words (Some read) =
    codes ", but a read of " ++ (reader_words read.reader ++ (codes " that ended at" ++ (place_words read.ended ++ (codes " gave the later value " ++ (decimal read.value ++ (codes ", of" ++ place_words read.written))))))

-- one of the others, each of which shows why the one before it is of no earlier write
abbrev pub further_read_words : Option EarlierRead → List ℕ
further_read_words None = []
further_read_words (Some read) =
    codes "; for the read of " ++ (reader_words read.reader ++ (codes " that ended at" ++ (place_words read.ended ++ (codes " can be of no write before that of" ++ place_words read.written))))

-- that there are more reads than shown
abbrev pub cut_words : Bool → List ℕ
cut_words true = codes "; .."
cut_words false = []

-- the read at this place of a chain
abbrev pub read_at : Chain → ℕ → Option EarlierRead
read_at chain place = slice_index_or chain.reads place None

-- the reads of a chain
abbrev pub chain_words : Chain → List ℕ
chain_words chain =
    first_read_words (read_at chain 0) ++ (further_read_words (read_at chain 1) ++ (further_read_words (read_at chain 2) ++ (further_read_words (read_at chain 3)
    ++ (further_read_words (read_at chain 4) ++ (further_read_words (read_at chain 5) ++ (further_read_words (read_at chain 6) ++ (further_read_words (read_at chain 7) ++ cut_words chain.is_cut)))))))

-- since when the register held a value
abbrev pub held_since_words : Option ℕ → List ℕ
held_since_words None = codes " the start"
held_since_words (Some place) = place_words place

-- what contradicts a read that returned this value
abbrev pub reason_words : (value : ℕ) → MissReason Chain → List ℕ
reason_words v NoValue = codes ", which is no value of the register"
reason_words v (Held value since) = codes ", but no write overlapped the read, and the register held " ++ (decimal value ++ (codes " since" ++ held_since_words since))
reason_words v NotWritten = codes ", but neither the last write before the read nor one that overlapped it wrote " ++ decimal v
reason_words v (Inverted chain) = chain_words chain

-- the line of a miss, what was read, and what contradicts it
abbrev pub miss_words : RegisterMiss → List ℕ
miss_words miss = codes "line " ++ (decimal miss.line ++ (codes ": " ++ (reader_words miss.reader ++ (codes " got " ++ (decimal miss.value ++ reason_words miss.value miss.reason)))))
