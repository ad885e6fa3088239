-- The names of other crates and of the specs that several proofs here cite, passed on from one place. Declares nothing.
pub use Rattle.bits_core.proofs.LawLemmas.{access_is_made, made_is_access, subhistory_has_one_place, subhistory_has_place}
pub use Rattle.bits_core.specs.Bits.{doer, is_by, other, same_side}
pub use Rattle.bits_core.specs.Intervals.{HasOverlap, IsRead, IsWrite, end_of, first_place}
pub use Rattle.bits_core.specs.Lawful.{IsLawful}
pub use Rattle.bits_core.specs.Made.{IsPlaceOf, IsPrefix, Made, Write, access_of, answered, begin_event, clock, end_event, events_of, subhistory}
pub use Rattle.bits_core.specs.Shape.{AllFit, batch_of, capacity_of, modulus_of, take_batch_of, width_of}
pub use Rattle.bits_core.specs.declared.events.Access.{Access}
pub use Rattle.bits_core.specs.declared.events.Bit.{Bit}
pub use Rattle.bits_core.specs.declared.events.Bit.TheVariants.{Cell, R, S, X}
pub use Rattle.bits_core.specs.declared.events.Side.{Side}
pub use Rattle.bits_core.specs.declared.events.Side.TheVariants.{C, P}
pub use Rattle.bits_core.specs.declared.shapes.Shape.{Shape}
pub use Rattle.queue_calls.specs.Calls.{CloseBegin, CloseEnd, PutBegin, Shut, TakeBegin, TakeEnd}
pub use Rattle.queue_calls.specs.Counting.{AreCounted, Kept, kept}
pub use Rattle.queue_calls.specs.Queue.{Dequeue, Enqueue, exactly, queue}
pub use Rattle.register_core.specs.Machine.{IsNext}
pub use Rattle.register_core.specs.ScanState.{ScanState, due_scan, scan_read}
pub use Rattle.register_core.specs.Unary.{count_writes, row_writes, unary_writes}
pub use Rattle.register_core.specs.UnaryLaw.{count_begun, count_ended}
pub use Rattle.register_core.specs.UnaryState.{UnaryStands, UnaryState, bit_in, due_unary, due_writes}
pub use Rattle.register_core.specs.WordState.{IsReadOf, ReaderStands, ReaderState, WriterStands, WriterState, due_read, due_write}
pub use Rattle.ring_core.specs.Calls.{EndsInZeros, IsCounted, IsScanning, LastBitIsDue}
pub use Rattle.ring_core.specs.CallsAt.{IsPutAt, IsTakeAt, scan_events}
pub use Rattle.ring_core.specs.ConsumerCalls.{ConsumerMoves, ConsumerStands, HasTakeMore, IsBatchReplyToTake, IsTakeOf, TakeGoesOn, count_taken, take_batch_reply}
pub use Rattle.ring_core.specs.ConsumerState.{ConsumerState, IsBetweenWords, IsConsumer, IsLoading, IsTaking, consumer_due_at, due_take, is_taking, takes_at}
pub use Rattle.ring_core.specs.Counts.{Count, IsCount, LeavesRoom, LeavesRoomFor, ShowsItem, batch_phrase, count_bits, distance, first_count, number_past}
pub use Rattle.ring_core.specs.GoingOn.{AreWanted, EndInCellRead}
pub use Rattle.ring_core.specs.Items.{IsTold, Tells, all_put, all_taken, events_in, items_put, items_put_in, items_taken, taken_of}
pub use Rattle.ring_core.specs.Linear.{IsLinearizableRun, TimedOperation, operations, put_operations, take_effect, take_operations}
pub use Rattle.ring_core.specs.ProducerCalls.{count_of}
pub use Rattle.ring_core.specs.ProducerState.{ProducerState, call_of, producer_due_at}
pub use Rattle.ring_core.specs.Puts.{ArePuts, FollowsPuts, Full, IsBatch, IsPut, Puts, Stored, close_phrase, number_after, put_phrase, put_phrases, put_program, stored_after, stored_count, stored_in, words_phrase}
pub use Rattle.ring_core.specs.Recorded.{AreOffered, call_told, put_answer, put_told, recorded, take_answer, take_told, told_or_behind}
pub use Rattle.ring_core.specs.RingLaw.{ClosedIsTrue, InEveryRun, IsInterval, IsRun, RingLaw, TakenArePrefix}
pub use Rattle.ring_core.specs.RunLaws.{ClosedStays}
pub use Rattle.ring_core.specs.Takes.{AreTakes, Closed, Empty, End, FollowsTakes, IsTake, IsTakeBatch, Item, ItemAfterClose, Open, Take, Takes, accesses_before_word, count_after, end_phrase, take_phrase, take_phrases, take_program, taken_after, taken_count, taken_in}
pub use Rattle.ring_core.specs.declared.consumers.Stage.TheVariants.{Loading}
pub use Rattle.ring_core.specs.declared.producers.Stage.TheVariants.{Closing, Storing}
pub use Rattle.std.proofs.Math.Nat.{add-mul, mod-add-mod, mod-eq_of_lt, mod-lt, mul-le-mul_right, suc-mul, zero-mod}
pub use Rattle.std.proofs.Math.Seq.{take-append_seam, take-length}
pub use Rattle.std.proofs.lemmas.Bool.{eq-eqb, le-leb, le-ltb, leb-true, lt-leb, lt-ltb}
pub use Rattle.std.proofs.lemmas.Bool.Decides.{nat_tests}
pub use Rattle.std.proofs.lemmas.List.{append_cancel_left, length-map, map-append}
pub use Rattle.std.proofs.lemmas.List.Elements.{All-append, All-nil, filter-append, filter_map-append}
pub use Rattle.std.proofs.lemmas.Nat.{mod_below}
pub use Rattle.std.proofs.lemmas.Option.{get_or_from_slice_get, slice_get_within}
pub use Rattle.std.specs.Prelude.{All, map, slice_index_or}
