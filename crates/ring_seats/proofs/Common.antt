-- The names of other crates and of the specs that most proofs here cite, passed on from one place. Declares nothing.
pub use Rattle.atomic_table.specs.Table.{Allows, Me}
pub use Rattle.bits_core.proofs.LawLemmas.{held_changes}
pub use Rattle.bits_core.specs.Bits.{first_value, other, reader, same_bit, same_side, writer}
pub use Rattle.bits_core.specs.History.{held, open_access}
pub use Rattle.bits_core.specs.Lawful.{IsLawful}
pub use Rattle.bits_core.specs.Made.{IsPrefix, Made, events_of, subhistory}
pub use Rattle.bits_core.specs.Open.{IsOpenRight}
pub use Rattle.bits_core.specs.Shape.{AllFit, belongs, capacity_of, modulus_of, width_of}
pub use Rattle.bits_core.specs.Steps.{MayFollow}
pub use Rattle.bits_core.specs.declared.events.Access.{Access}
pub use Rattle.bits_core.specs.declared.events.Act.{Act}
pub use Rattle.bits_core.specs.declared.events.Act.TheVariants.{ReadBegin, ReadEnd, WriteBegin, WriteEnd}
pub use Rattle.bits_core.specs.declared.events.Bit.{Bit}
pub use Rattle.bits_core.specs.declared.events.Bit.TheVariants.{Cell, X}
pub use Rattle.bits_core.specs.declared.events.Event.{Event}
pub use Rattle.bits_core.specs.declared.events.Side.{Side}
pub use Rattle.bits_core.specs.declared.events.Side.TheVariants.{C, P}
pub use Rattle.bits_core.specs.declared.shapes.Shape.{Shape}
pub use Rattle.register_core.specs.Row.{RowWrite, row_bit, writes_in}
pub use Rattle.register_core.specs.ScanState.{row_read_by, scan_phrase, zero_reads}
pub use Rattle.register_core.specs.Unary.{unary_phrase}
pub use Rattle.register_core.specs.Word.{digit, digit_reads, digit_writes, word_read, word_write}
pub use Rattle.ring_core.specs.Counts.{Count}
pub use Rattle.ring_core.specs.Puts.{words_phrase}
pub use Rattle.ring_core.specs.Takes.{words_read}
pub use Rattle.ring_seats.specs.Counters.{GrowsBy, KeptWords, unary_over, value_left}
pub use Rattle.ring_seats.specs.Programs.{Follows, GoesOn, IsRing}
pub use Rattle.ring_seats.specs.Ring.{Ring, RingEnd}
pub use Rattle.ring_seats.specs.Rule.{KeepsFlickerRule, KeptBy, SeatKnows, Stands, event, list_of, may_step}
pub use Rattle.ring_seats.specs.Steppers.{AreAnswered, CanMake, HasMade}
pub use Rattle.ring_seats.specs.Words.{answer_of, word_place}
pub use Rattle.ring_seats.specs.declared.views.View.{View}
pub use Rattle.std.proofs.Math.Nat.{suc-mod}
pub use Rattle.std.proofs.lemmas.List.{length-replicate}
pub use Rattle.std.specs.Prelude.{if◌then◌else◌, unwrap_or}
pub use lib.ListN.{get_elem?}
pub use mathlib.Core.Option.{some}
