-- The laws of src/laws.rt as lemmas, each under its name, and each clause of a law with several as LAW_CLAUSE: cited by proofs,
-- here and in the crates above.
use Rattle.std.proofs.Common.{arith}
use Rattle.queue_calls.proofs.LawLemmas.{counted_is_linearizable}
use Rattle.ring_core.proofs.CallsLaw as calls
use Rattle.ring_core.proofs.Cells.CellAccesses.{cells_are_quiet}
use Rattle.ring_core.proofs.ClosedStays.{closed-stays}
use Rattle.ring_core.proofs.CountRow.{batch_by_below, batch_long, counted_is_count, first_is_count}
use Rattle.ring_core.proofs.Linear.LinearRuns.{linearizable}
use Rattle.ring_core.proofs.Machines.TakeCalls.{fit-push, words_read-push}
use Rattle.ring_core.proofs.OverSpans.RingOfSpans.{LawOfSpans}
use Rattle.ring_core.proofs.Recorded.RecordedRuns.{recorded_are_counted}
use Rattle.ring_core.proofs.RingHolds.{law_of_spans}
use Rattle.bits_core.specs.Shape.{capacity_of}
use Rattle.queue_calls.specs.Queue.{exactly}
use Rattle.ring_core.specs.Recorded.{recorded, RecordedIsLinearizable}
use Rattle.ring_core.specs.CountWrites.{CountsAreWritten, CountsShowNumbers}
use Rattle.ring_core.proofs.Common.{IsLinearizableRun, ClosedStays}
use Rattle.ring_core.proofs.Machines.OneWordMore.{ItemsFitByOneMore, WordsByOneMore}
use Rattle.ring_core.specs.RingLaw.{CellsAreQuiet, ClosedIsTrue, EmptyIsFresh, FillIsFresh, DrainIsFresh, FullIsFresh, InEveryRun, IsWithin, RingLaw, TakenArePrefix, TakesMatchPuts, WordsAreQuiet}
use Rattle.ring_core.specs.Ranges.{PutsAreInRange, TakesAreInRange}
pub use Rattle.ring_core.proofs.Readings.ItemsRead.{puts-are_first as calls_are_first_puts, puts-are_read as puts_are_read, items-are_read as items_put_are_read}
pub use Rattle.ring_core.proofs.Readings.TakesRead.{takes-are_first as calls_are_first_takes, takes-are_read as takes_are_read}
pub use Rattle.ring_core.proofs.Recorded.RecordedByOne.{puts-tell as events_tell_by_one_puts, takes-tell as events_tell_by_one_takes}
pub use Rattle.ring_core.proofs.Readings.WholeCalls.{whole-puts as whole_calls_count_puts, whole-takes as whole_calls_count_takes}
pub use Rattle.ring_core.proofs.Machines.Lengths.{item_puts-are_short as calls_are_short_item_puts, full_puts-are_short as calls_are_short_full_puts, puts-are_short as calls_are_short_puts, takes-are_short as calls_are_short_takes, ends-are_short as calls_are_short_ends}
pub use Rattle.ring_core.proofs.Machines.OneCallMore.{puts-by_one as programs_by_one_call_puts, closes-by_one as programs_by_one_call_closes, takes-by_one as programs_by_one_call_takes, ends-by_one as programs_by_one_call_ends, takes-of_one as programs_by_one_call_one}
pub use Rattle.ring_core.proofs.Machines.TakeCalls.{words-go_on as words_by_one_more_go_on}
pub use Rattle.ring_core.proofs.Machines.GoingOn.{puts-go_on_by_one as calls_go_on_by_one_puts, takes-go_on_by_one as calls_go_on_by_one_takes}
pub use Rattle.ring_core.proofs.Machines.TakeParts.{takes-go_on as takes_go_on, takes-go_on_alike as takes_go_on_alike}
pub use Rattle.ring_core.proofs.Machines.PutParts.{scans-or_closes as puts_go_on_between, scans-on as puts_go_on_scans, stores-or_counts as puts_go_on_words, stores-on as puts_go_on_digits, counts-on as puts_go_on_counts, last-puts_read_one as last_reads_are_one_puts}
pub use Rattle.ring_core.proofs.LastBits.{last-takes_read_one as last_reads_are_one_takes}
pub use Rattle.ring_core.proofs.Machines.Following.{puts-are_followed as calls_are_followed_puts, takes-are_followed as calls_are_followed_takes}
pub use Rattle.ring_core.proofs.NeverMisses.{puts-are_seen as last_bit_is_one_puts, takes-are_seen as last_bit_is_one_takes}
pub use Rattle.ring_core.proofs.Readings.Over.{puts_over-read as calls_over_are_read_puts, takes_over-read as calls_over_are_read_takes, taken-are_read as items_taken_are_read}
pub use Rattle.ring_core.proofs.OneMore.{runs-by_put as runs_by_one_more_put, runs-by_take as runs_by_one_more_take}
pub use Rattle.ring_core.proofs.Witness.{has-a_run as has_a_run}

pub counts_are_written_numbers : CountsShowNumbers
counts_are_written_numbers = λ shape. (first_is_count shape, λ count seen items. counted_is_count shape count items)

pub counts_are_written_written : CountsAreWritten
counts_are_written_written = λ shape s count items is some few. batch_long shape s count items is some (omega (arith, few, batch_by_below shape s))

pub words_by_one_more_words : WordsByOneMore
words_by_one_more_words = words_read-push

pub words_by_one_more_fit : ItemsFitByOneMore
words_by_one_more_fit = λ shape items item fit last. fit-push shape items item fit (last, tt)

pub ring_law : InEveryRun RingLaw
ring_law shape h puts takes run =
    let spans : LawOfSpans shape h puts takes = law_of_spans shape h puts takes run in
    record {
      within = calls.within shape h puts takes run spans;
      put_range = calls.put_range shape h puts takes run spans;
      take_range = calls.take_range shape h puts takes run spans;
      words = calls.words shape h puts takes run spans;
      cells = cells_are_quiet shape h puts takes run (calls.items_quiet shape h puts takes run spans);
      prefix = calls.prefix shape h puts takes run spans;
      items = calls.items shape h puts takes run spans;
      empty = calls.empty shape h puts takes run spans;
      full = calls.full shape h puts takes run spans;
      fill = calls.fill shape h puts takes run spans;
      drain = calls.drain shape h puts takes run spans;
      closed = calls.closed shape h puts takes run spans;
    }

pub ring_law_within : InEveryRun IsWithin
ring_law_within = λ shape h puts takes run. (ring_law shape h puts takes run).within

pub ring_law_put_range : InEveryRun PutsAreInRange
ring_law_put_range = λ shape h puts takes run. (ring_law shape h puts takes run).put_range

pub ring_law_take_range : InEveryRun TakesAreInRange
ring_law_take_range = λ shape h puts takes run. (ring_law shape h puts takes run).take_range

pub ring_law_words : InEveryRun WordsAreQuiet
ring_law_words = λ shape h puts takes run. (ring_law shape h puts takes run).words

pub ring_law_cells : InEveryRun CellsAreQuiet
ring_law_cells = λ shape h puts takes run. (ring_law shape h puts takes run).cells

pub ring_law_prefix : InEveryRun TakenArePrefix
ring_law_prefix = λ shape h puts takes run. (ring_law shape h puts takes run).prefix

pub ring_law_items : InEveryRun TakesMatchPuts
ring_law_items = λ shape h puts takes run. (ring_law shape h puts takes run).items

pub ring_law_empty : InEveryRun EmptyIsFresh
ring_law_empty = λ shape h puts takes run. (ring_law shape h puts takes run).empty

pub ring_law_full : InEveryRun FullIsFresh
ring_law_full = λ shape h puts takes run. (ring_law shape h puts takes run).full

pub ring_law_fill : InEveryRun FillIsFresh
ring_law_fill = λ shape h puts takes run. (ring_law shape h puts takes run).fill

pub ring_law_drain : InEveryRun DrainIsFresh
ring_law_drain = λ shape h puts takes run. (ring_law shape h puts takes run).drain

pub ring_law_closed : InEveryRun ClosedIsTrue
ring_law_closed = λ shape h puts takes run. (ring_law shape h puts takes run).closed

pub ring_is_linearizable : InEveryRun IsLinearizableRun
ring_is_linearizable = λ shape h puts takes run. linearizable shape h puts takes run (law_of_spans shape h puts takes run)

pub recorded_is_linearizable : RecordedIsLinearizable
recorded_is_linearizable = λ shape offers wants h puts takes run offered some wanted.
    counted_is_linearizable (exactly (capacity_of shape)) (recorded shape offers wants h puts takes) (shape.has_cells, omega arith)
    (recorded_are_counted shape offers wants h puts takes run (law_of_spans shape h puts takes run) some offered wanted)

pub closed_stays : ClosedStays
closed_stays = closed-stays ring_law
