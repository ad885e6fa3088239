-- The names of other crates and of the specs that most proofs here cite, passed on from one place. Declares nothing.
pub use Rattle.bits_core.specs.Bits.{other}
pub use Rattle.bits_core.specs.History.{open_access}
pub use Rattle.bits_core.specs.Lawful.{IsLawful}
pub use Rattle.bits_core.specs.Made.{IsPrefix, Made, answered, events_of, opening_event, subhistory}
pub use Rattle.bits_core.specs.Memory.{MemoryState}
pub use Rattle.bits_core.specs.Oracle.{turn}
pub use Rattle.bits_core.specs.Shape.{batch_of, modulus_of, width_of}
pub use Rattle.bits_core.specs.declared.events.Access.{Access}
pub use Rattle.bits_core.specs.declared.events.Act.TheVariants.{ReadEnd}
pub use Rattle.bits_core.specs.declared.events.Bit.{Bit}
pub use Rattle.bits_core.specs.declared.events.Event.{Event}
pub use Rattle.bits_core.specs.declared.events.Side.{Side}
pub use Rattle.bits_core.specs.declared.events.Side.TheVariants.{C, P}
pub use Rattle.bits_core.specs.declared.shapes.Shape.{Shape}
pub use Rattle.queue_calls.specs.declared.events.CallEvent.{CallEvent}
pub use Rattle.ring_core.proofs.CountRow.{past_is}
pub use Rattle.ring_core.proofs.Machines.Following.{events_of-append, length-events}
pub use Rattle.ring_core.specs.Calls.{LastBitIsDue}
pub use Rattle.ring_core.specs.ConsumerCalls.{IsTakeOf}
pub use Rattle.ring_core.specs.ConsumerState.{ConsumerState, due_take, is_taking}
pub use Rattle.ring_core.specs.Counts.{Count, first_count}
pub use Rattle.ring_core.specs.Items.{IsTold, Tells, ToldIn, all_taken, events_in, items_put, items_taken_in}
pub use Rattle.ring_core.specs.Over.{empties, fulls, puts_over, takes_over, takes_over_in}
pub use Rattle.ring_core.specs.ProducerCalls.{room_in}
pub use Rattle.ring_core.specs.ProducerState.{Call, ProducerState, call_of}
pub use Rattle.ring_core.specs.Puts.{FollowsPuts, Puts, put_program}
pub use Rattle.ring_core.specs.RingLaw.{IsRun}
pub use Rattle.ring_core.specs.Takes.{Closed, End, FollowsTakes, Open, Take, Takes, take_phrases, take_program, taken_after, taken_in}
pub use Rattle.ring_core.specs.declared.replies.TakeBatchReply.{TakeBatchReply}
pub use Rattle.ring_player.specs.Actors.{IsAtTurn, IsMove, IsPlaying, PutTally, TakeActorStands, so_far}
pub use Rattle.ring_player.specs.Headline.{EveryPlayFills, IsPlayOf}
pub use Rattle.ring_player.specs.Plays.{AreAttempts, ArePutsOf, IsDoneAfter, IsProgram, Plays, event_sides, offered}
pub use Rattle.ring_player.specs.Tellings.{AreAt, IsPutStage, IsTakeStage, TellsCalls, call_events, offers_of, wants_of}
pub use Rattle.ring_player.specs.Wants.{wanted_at}
pub use Rattle.ring_player.specs.Worlds.{Played}
pub use Rattle.ring_player.specs.declared.tellings.TakenItems.{TakenItems}
pub use Rattle.ring_script.specs.Borrowed.{content_of}
pub use Rattle.ring_script.specs.Content.{Content}
pub use Rattle.ring_script.specs.declared.schedules.LetterRun.{LetterRun}
pub use Rattle.std.proofs.lemmas.List.{take_all}
pub use Rattle.std.specs.Prelude.{replicate, slice_index_or, ◌↔◌}
