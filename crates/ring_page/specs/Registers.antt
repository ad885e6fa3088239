-- What the page receives for a recorded register.
use Rattle.std.specs.Prelude.{◌≡◌, ◌⊎◌, ℕ, Bool, List, Option, Some, None, slice_index_or}
use Rattle.register_calls.specs.declared.chains.Chain.{Chain}
use Rattle.register_calls.specs.declared.events.Class.{Class}
use Rattle.register_calls.specs.declared.events.Class.TheVariants.{Safe, Regular, AtomicByReader, Atomic}
use Rattle.register_calls.specs.declared.events.Register.{Register}
use Rattle.register_calls.specs.declared.events.RegisterEvent.{RegisterEvent}
use Rattle.register_calls.specs.declared.reasons.EarlierRead.{EarlierRead}
use Rattle.register_calls.specs.declared.reasons.MissReason.{MissReason}
use Rattle.register_calls.specs.declared.reasons.MissReason.TheVariants.{NoValue, Held, NotWritten, Inverted}
use Rattle.register_calls.specs.declared.reports.RegisterReport.{RegisterReport}
use Rattle.register_recordings.specs.Recordings.{IsRegisterFound, IsRegisterRecording, RefusesRegisterText}
use Rattle.register_recordings.specs.declared.faults.RegisterTextFault.{RegisterTextFault}
use Rattle.register_recordings.specs.declared.faults.RegisterTextFault.TheVariants.{BadLine, TooLong, OutOfMemory}
use Rattle.register_recordings.specs.declared.findings.RegisterFinding.{RegisterFinding}
use Rattle.register_recordings.specs.declared.findings.RegisterFinding.TheVariants.{Judged, OutOfTurn}
use Rattle.register_recordings.specs.declared.findings.RegisterMiss.{RegisterMiss}
use Rattle.ring_page.specs.Marks.{bit_number}
use Rattle.ring_page.specs.declared.registers.MissTold.{MissTold}
use Rattle.ring_page.specs.declared.registers.ReadTold.{ReadTold}
use Rattle.ring_page.specs.declared.registers.RegisterCounts.{RegisterCounts}
use Rattle.ring_page.specs.declared.registers.RegisterTold.{RegisterTold}

-- the number of a class, or of none
-- again, as queue_calls_c, on which no crate depends, has it as class_number
abbrev pub class_told : Option Class → ℕ
class_told None = 0
class_told (Some Safe) = 1
class_told (Some Regular) = 2
class_told (Some AtomicByReader) = 3
class_told (Some Atomic) = 4

-- the numbers of a report
abbrev pub register_counts : RegisterReport → RegisterCounts
register_counts report = record {
  writes = report.writes;
  reads = report.reads;
  overlapped = report.overlapped;
  by_several = report.by_several;
  could_invert = report.could_invert;
}

-- the numbers of no report
abbrev pub no_register_counts : RegisterCounts
no_register_counts = record { writes = 0; reads = 0; overlapped = 0; by_several = 0; could_invert = 0 }

-- ---- a class that is missed

-- no earlier read, as numbers
abbrev pub no_read : ReadTold
no_read = record { is_there = 0; reader = 0; ended = 0; value = 0; written = 0 }

-- an earlier read that a reason reports, as numbers, if there is one
abbrev pub read_told : Option EarlierRead → ReadTold
read_told None = no_read
read_told (Some read) = record { is_there = 1; reader = read.reader; ended = read.ended; value = read.value; written = read.written }

-- the class is not missed
abbrev pub no_miss : MissTold
no_miss = record {
  line = 0;
  reader = 0;
  value = 0;
  reason = 0;
  held = 0;
  is_since = 0;
  since = 0;
  is_cut = 0;
  first = no_read;
  second = no_read;
  third = no_read;
  fourth = no_read;
  fifth = no_read;
  sixth = no_read;
  seventh = no_read;
  eighth = no_read;
}

-- a miss whose reason has this number, without details
abbrev pub plain_miss : RegisterMiss → ℕ → MissTold
plain_miss miss number = record no_miss { line = miss.line; reader = miss.reader; value = miss.value; reason = number }

-- one with a value that the register held, since the event at a place if there is one
abbrev pub held_told : RegisterMiss → ℕ → Option ℕ → MissTold
held_told miss value None = record (plain_miss miss 2) { held = value }
held_told miss value (Some place) = record (plain_miss miss 2) { held = value; is_since = 1; since = place }

-- the read at a place of a chain, as numbers
abbrev pub chain_read : Chain → ℕ → ReadTold
chain_read chain place = read_told (slice_index_or chain.reads place None)

-- a miss that the reads of a chain contradict
abbrev pub chain_told : RegisterMiss → Chain → MissTold
chain_told miss chain = record (plain_miss miss 4) {
  first = chain_read chain 0;
  second = chain_read chain 1;
  third = chain_read chain 2;
  fourth = chain_read chain 3;
  fifth = chain_read chain 4;
  sixth = chain_read chain 5;
  seventh = chain_read chain 6;
  eighth = chain_read chain 7;
  is_cut = bit_number chain.is_cut;
}

-- a miss, by its reason
abbrev pub told_by_reason : RegisterMiss → MissReason Chain → MissTold
told_by_reason miss NoValue = plain_miss miss 1
told_by_reason miss (Held value since) = held_told miss value since
told_by_reason miss NotWritten = plain_miss miss 3
told_by_reason miss (Inverted chain) = chain_told miss chain

-- a miss as numbers, if there is one
abbrev pub miss_told : Option RegisterMiss → MissTold
miss_told None = no_miss
miss_told (Some miss) = told_by_reason miss miss.reason

-- ---- a text

-- nothing found
abbrev pub nothing_told : RegisterTold
nothing_told = record {
  outcome = 0;
  number = 0;
  line = 0;
  class = 0;
  cut = 0;
  counts = no_register_counts;
  safe = no_miss;
  regular = no_miss;
  by_reader = no_miss;
  atomic = no_miss;
}

-- a finding, and whether later operations are missing, as numbers
abbrev pub told_of_register_finding : RegisterFinding → (is_cut : Bool) → RegisterTold
told_of_register_finding (Judged class misses report) is_cut = record nothing_told {
  class = class_told class;
  cut = bit_number is_cut;
  counts = register_counts report;
  safe = miss_told misses.safe;
  regular = miss_told misses.regular;
  by_reader = miss_told misses.by_reader;
  atomic = miss_told misses.atomic;
}
told_of_register_finding (OutOfTurn line) is_cut = record nothing_told { outcome = 1; line = line; cut = bit_number is_cut }

-- a refusal, as numbers
abbrev pub told_of_register_refusal : RegisterTextFault → RegisterTold
told_of_register_refusal (BadLine line) = record nothing_told { outcome = 2; number = 1; line = line }
told_of_register_refusal TooLong = record nothing_told { outcome = 2; number = 2 }
told_of_register_refusal OutOfMemory = record nothing_told { outcome = 2; number = 3 }

-- the finding on a text, and whether its first line says that later operations are missing
abbrev pub IsRegisterFindingIn : List ℕ → RegisterFinding → (is_cut : Bool) → Type 0
IsRegisterFindingIn text finding is_cut =
    (r : Register) × (events : List RegisterEvent) × (recording : IsRegisterRecording text r events) × IsRegisterFound r events finding × (is_cut ≡ recording.is_cut)

-- the result for a text: the finding on it, and whether it is cut; or why it is refused
abbrev pub ReportsRegister : List ℕ → RegisterTold → Type 0
ReportsRegister text told =
    ((finding : RegisterFinding) × (is_cut : Bool) × IsRegisterFindingIn text finding is_cut × (told ≡ told_of_register_finding finding is_cut)) ⊎
    ((fault : RegisterTextFault) × RefusesRegisterText fault text × (told ≡ told_of_register_refusal fault))
