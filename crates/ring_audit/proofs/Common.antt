-- The names of other crates and of the specs that most proofs here cite, passed on from one place. Declares nothing.
pub use Rattle.bits_core.specs.Bits.{begun_by}
pub use Rattle.bits_core.specs.Lawful.{IsLawful}
pub use Rattle.bits_core.specs.Made.{IsPrefix, Made, Read, Write, access_of, answered, end_event, events_of, opening_event, subhistory}
pub use Rattle.bits_core.specs.Shape.{capacity_of, modulus_of, width_of}
pub use Rattle.bits_core.specs.declared.events.Access.{Access}
pub use Rattle.bits_core.specs.declared.events.Bit.{Bit}
pub use Rattle.bits_core.specs.declared.events.Bit.TheVariants.{Cell, R, S, X}
pub use Rattle.bits_core.specs.declared.events.Event.{Event}
pub use Rattle.bits_core.specs.declared.events.Side.{Side}
pub use Rattle.bits_core.specs.declared.events.Side.TheVariants.{C, P}
pub use Rattle.bits_core.specs.declared.shapes.Shape.{Shape}
pub use Rattle.register_core.specs.Row.{RowWrite, bits_after, row_bit, writes_in}
pub use Rattle.register_core.specs.ScanState.{ScanState, due_scan, row_read_by, scan_phrase, zero_reads}
pub use Rattle.register_core.specs.UnaryState.{UnaryState, due_unary, due_writes, first_access}
pub use Rattle.register_core.specs.Word.{digit_writes}
pub use Rattle.register_core.specs.WordState.{ReaderStands, ReaderState, due_read}
pub use Rattle.ring_audit.specs.Dues.{BothStand, GoesOnBehind, IsNoneOf}
pub use Rattle.ring_audit.specs.PutReading.{HasReadPut, IsReaderAt, MadeWhile, PutReading, PutsStand, WerePut}
pub use Rattle.ring_audit.specs.Reading.{BothFollow, Reading, ReadingStands, reading}
pub use Rattle.ring_audit.specs.Sides.{AreOfPuts, AreOfTakes, open_events}
pub use Rattle.ring_audit.specs.TakeReading.{HasReadTake, TakeReading, TakesStand, WereTaken, step_by}
pub use Rattle.ring_audit.specs.contracts.puts.PutReader.{the_view}
pub use Rattle.ring_audit.specs.declared.choices.Dues.{Dues}
pub use Rattle.ring_audit.specs.declared.puts.PutStep.TheVariants.{GoesOn, Stops}
pub use Rattle.ring_audit.specs.declared.puts.Stage.TheVariants.{Choosing, Closing, Resting, Storing}
pub use Rattle.ring_core.proofs.Machines.Following.{events_of-append, length-events}
pub use Rattle.ring_core.proofs.Machines.NextParts.{scan_due}
pub use Rattle.ring_core.proofs.Machines.PutCalls.{are-push, phrases-push}
pub use Rattle.ring_core.specs.ConsumerCalls.{ConsumerStands}
pub use Rattle.ring_core.specs.ConsumerState.{ConsumerState, IsBetweenWords, due_take, is_taking}
pub use Rattle.ring_core.specs.Counts.{Count, first_count}
pub use Rattle.ring_core.specs.PutParts.{count_behind}
pub use Rattle.ring_core.specs.Puts.{Put, put_program}
pub use Rattle.ring_core.specs.Takes.{Takes, take_program}
pub use Rattle.ring_core.specs.declared.replies.TakeReply.{TakeReply}
pub use Rattle.std.proofs.lemmas.List.{take_more}
