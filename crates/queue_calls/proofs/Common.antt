-- The names of other crates and of the specs that several proofs here cite, passed on from one place. Declares nothing.
pub use Rattle.call_causes.specs.declared.causes.Cause.{Cause}
pub use Rattle.call_causes.specs.declared.causes.Cause.TheVariants.{ClosedWhileInside, EmptyAfterClose, EmptyWhileInside, NoMoreWhileInside, NotTaken, OnlySomeStored, OnlySomeWithRoom, ShortAfterClose, ShortWhileInside, StoredAfterClose}
pub use Rattle.call_causes.specs.declared.entries.Offered.{Offered}
pub use Rattle.call_causes.specs.declared.entries.Taken.{Taken}
pub use Rattle.call_lines.specs.Lines.{Allows, AreSmall, IsLine, line_text}
pub use Rattle.call_lines.specs.declared.lines.Word.{Word}
pub use Rattle.lists.proofs.Results.{if_err, of_err, then_err, then_ok}
pub use Rattle.queue_calls.specs.Calls.{CanLeadTo, CanReply, CloseBegin, CloseEnd, Closing, Consumer, ConsumerStep, Effect, Event, FoundClosed, FoundShut, Happens, Idle, IsLinearizable, LeadTo, Leads, Mark, Point, Producer, ProducerStep, PutBegin, PutEnd, Putting, Resting, TakeBegin, TakeEnd, Taking, events_among, is_shut, lacked_by, passed, point}
pub use Rattle.queue_calls.specs.Counting.{AreCounted, CountTo, Counts, FoundFewer, Kept, kept, without}
pub use Rattle.queue_calls.specs.InTurn.{AClose, APut, ATake, CallsAreInTurn, MovesSides, NoCall, Sides, Turns, UnderWay, sides}
pub use Rattle.queue_calls.specs.Noting.{OutgrowsLists, all_got}
pub use Rattle.queue_calls.specs.Queue.{Between, Capacity, Close, Dequeue, Enqueue, FindClosed, FindFewer, FindNoRoom, FindShut, IsDrained, IsLegal, LacksRoom, Operation, Queue, Step, Unbounded, queue}
pub use Rattle.queue_calls.specs.Reasons.{at, before_put, before_stored, before_take, can_hold, can_lack, cause_of, closed_cause, coming, empty_cause, ended_line, fewer_cause, full_cause, has_begun, has_ended, has_told, items_cause, items_of, k_of, last_in, last_of, last_taken, line_behind, n_of, not_taken_cause, offered_at, offers, put_short_cause, stored_at, stored_cause, take_short_cause, taken, taken_at, told_closed_line, wanted}
pub use Rattle.queue_calls.specs.RecordingStates.{HasHeard, HasLines, HasRead, HeardLines, IsFaultSoFar}
pub use Rattle.queue_calls.specs.Recordings.{AreLines, IsBadLine, IsFindingWithin, IsFoundWithin, IsFurther, IsOfFormat, IsRecording, Line, RefusesText, and_then, begun_after, begun_behind, capacity_told, event_told, events_told, first_word, line, lines_text, text_of}
pub use Rattle.queue_calls.specs.Reporting.{IsPerhapsInside, IsSurelyInside}
pub use Rattle.queue_calls.specs.Rooms.{AreTooShort, HasLongHistory, rooms_in}
pub use Rattle.queue_calls.specs.State.{AreNext, CanEndPut, CanEndTake, Describes, FitsPut, FitsTake, IsProper, IsSoundPut, IsSoundTake, Keeps, MayFindFewer, MayHold, MayLack, TellsPoint, asked_by, call_of_put, call_of_take, has_closed, left_by, offered_by, sides_of, taken_by}
pub use Rattle.queue_calls.specs.Tallying.{IsToldOf, Tallies, least_kept, most_behind, most_kept}
pub use Rattle.queue_calls.specs.Told.{meant, reply_by, told}
pub use Rattle.queue_calls.specs.Witnesses.{RefusesNext, Remembers, agreed, comes, last_taken_of, mark_last}
pub use Rattle.queue_calls.specs.declared.hearings.Hearing.{Hearing}
pub use Rattle.queue_calls.specs.declared.turns.PutTurn.{PutTurn}
pub use Rattle.queue_calls.specs.declared.turns.PutTurn.TheVariants.{Closes, Free, Late, Offers}
pub use Rattle.queue_calls.specs.declared.turns.TakeTurn.{TakeTurn}
pub use Rattle.queue_calls.specs.declared.turns.TakeTurn.TheVariants.{Rests, Waits}
pub use Rattle.queue_calls.specs.declared.witnesses.Witness.{Witness}
pub use Rattle.std.proofs.Math.Seq.{drop-append_seam, take-append-add, take-length, take-nil}
pub use Rattle.std.proofs.lemmas.Bool.{cases_Bool, cases_lt, eqb-true, false≢true, ltb-false, ltb-true, or_parts}
pub use Rattle.std.proofs.lemmas.Bool.Decides.{nat_tests}
pub use Rattle.std.proofs.lemmas.List.{drop_all, length-reverse, nil_from_length}
pub use Rattle.std.proofs.lemmas.List.Elements.{All-append, All-cons, All-head, All-nil, All-tail}
pub use Rattle.std.proofs.lemmas.Option.{none-some}
pub use Rattle.std.specs.Prelude.{All, find, is_some, max, unwrap_or}
