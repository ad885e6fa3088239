-- How much a history of a register could have shown.
use Rattle.std.specs.Prelude.{◌≡◌, ℕ, suc, nat_lt, ◌==◌, ◌||◌, Bool, false, Option, Some, None, List, [], ◌∷◌, if◌then◌else◌}
use Rattle.register_calls.specs.declared.events.Register.{Register}
use Rattle.register_calls.specs.declared.events.RegisterEvent.{RegisterEvent}
use Rattle.register_calls.specs.declared.events.RegisterEvent.TheVariants.{WriteBegins, WriteEnds, ReadBegins, ReadEnds}
use Rattle.register_calls.specs.declared.reports.RegisterReport.{RegisterReport}
use Rattle.register_calls.specs.declared.reports.RegisterTally.{RegisterTally}
use Rattle.register_calls.specs.Histories.{started, finished, before_read, IsWellFormed}
use Rattle.register_calls.specs.Classes.{IsRegular, IsAtomic}

-- how many reads have ended
abbrev pub reads_ended : List RegisterEvent → ℕ
reads_ended [] = 0
reads_ended (WriteBegins v ∷ before) = reads_ended before
reads_ended (WriteEnds ∷ before) = reads_ended before
reads_ended (ReadBegins i ∷ before) = reads_ended before
reads_ended (ReadEnds i v ∷ before) = suc (reads_ended before)

-- one more, if something holds
abbrev pub one_more_if : Bool → ℕ → ℕ
one_more_if b n = if b then suc n else n

-- how many of them a write overlapped: fewer writes had ended when the read began than had begun when it ended
abbrev pub overlapped_reads : List RegisterEvent → ℕ
overlapped_reads [] = 0
overlapped_reads (WriteBegins v ∷ before) = overlapped_reads before
overlapped_reads (WriteEnds ∷ before) = overlapped_reads before
overlapped_reads (ReadBegins i ∷ before) = overlapped_reads before
overlapped_reads (ReadEnds i v ∷ before) = one_more_if (nat_lt (finished (before_read i before)) (started before)) (overlapped_reads before)

-- how many of them several writes overlapped
abbrev pub overlapped_by_several : List RegisterEvent → ℕ
overlapped_by_several [] = 0
overlapped_by_several (WriteBegins v ∷ before) = overlapped_by_several before
overlapped_by_several (WriteEnds ∷ before) = overlapped_by_several before
overlapped_by_several (ReadBegins i ∷ before) = overlapped_by_several before
overlapped_by_several (ReadEnds i v ∷ before) = one_more_if (nat_lt (suc (finished (before_read i before))) (started before)) (overlapped_by_several before)

-- the value of the write under way
abbrev pub being_written : List RegisterEvent → Option ℕ
being_written [] = None
being_written (WriteBegins v ∷ before) = Some v
being_written (WriteEnds ∷ before) = None
being_written (ReadBegins i ∷ before) = being_written before
being_written (ReadEnds i v ∷ before) = being_written before

-- whether there is a value, and it is this one
abbrev pub is_value : Option ℕ → ℕ → Bool
is_value None v = false
is_value (Some held) v = held == v

-- whether a read that has ended has returned the value of the write under way, since that write began
abbrev pub is_shown : List RegisterEvent → Bool
is_shown [] = false
is_shown (WriteBegins v ∷ before) = false
is_shown (WriteEnds ∷ before) = false
is_shown (ReadBegins i ∷ before) = is_shown before
is_shown (ReadEnds i v ∷ before) = is_shown before || is_value (being_written before) v

-- how many reads have begun while a write was under way whose value had been shown in this way
abbrev pub could_invert : List RegisterEvent → ℕ
could_invert [] = 0
could_invert (WriteBegins v ∷ before) = could_invert before
could_invert (WriteEnds ∷ before) = could_invert before
could_invert (ReadBegins i ∷ before) = one_more_if (is_shown before) (could_invert before)
could_invert (ReadEnds i v ∷ before) = could_invert before

-- how much a history could have shown
abbrev pub report_of : List RegisterEvent → RegisterReport
report_of h = record {
  writes = started h;
  reads = reads_ended h;
  overlapped = overlapped_reads h;
  by_several = overlapped_by_several h;
  could_invert = could_invert h;
}

-- what is kept of a history for its report
pub record TalliesRegister (t : RegisterTally) (h : List RegisterEvent) : Type 0 where
  pub writes : t.report.writes ≡ started h
  pub reads : t.report.reads ≡ reads_ended h
  pub overlapped : t.report.overlapped ≡ overlapped_reads h
  pub by_several : t.report.by_several ≡ overlapped_by_several h
  pub could_invert : t.report.could_invert ≡ could_invert h
  pub under_way : t.under_way ≡ being_written h
  pub is_shown : t.is_shown ≡ is_shown h

-- a well-formed regular history in which no read could invert is atomic
abbrev pub NoneInvertsIsAtomic : Type 0
NoneInvertsIsAtomic = (r : Register) (h : List RegisterEvent) → IsWellFormed r h → IsRegular r.first h → could_invert h ≡ 0 → IsAtomic r.first h
