-- The items of a run, and the room of its recording.
use Rattle.std.specs.Prelude.{ℕ, ◌%◌, ◌^◌, List, map}
use Rattle.std.specs.List.{range_with_len}
use Rattle.ring_program.specs.declared.run_line.Run.{Run}
use Rattle.ring_program.specs.declared.run_line.RunText.{RunText}
use Rattle.ring_program.specs.declared.run_line.RunText.TheVariants.{Totals, Report, Recording}
use Rattle.ring_program.specs.declared.run_recordings.TheConstants.{RECORDED}

-- item number i, of this many binary digits
abbrev pub run_item : ℕ → ℕ → ℕ
run_item width i = i % 2 ^ width

-- the items, in order
abbrev pub run_items : Run → List ℕ
run_items run = map (run_item run.width) (range_with_len 0 run.count)

-- how much room the log of a side has in a run with this text
abbrev pub slots_of : RunText → ℕ
slots_of Totals = 0
slots_of Report = 0
slots_of Recording = RECORDED
