-- The names of other crates and of the specs that most proofs here cite, passed on from one place. Declares nothing.
pub use Rattle.bits_core.specs.Bits.{begun_access, begun_by, doer, first_value, is_by, reader, same_bit, same_side, value_written, write_of, writer}
pub use Rattle.bits_core.specs.History.{IsLastPlace, before_last, has_event, held, held_at_begin, is_empty, is_overlapped, last_value, open_access, open_write, writes_begun}
pub use Rattle.bits_core.specs.Intervals.{HasOverlap, IsAccess, IsHeld, IsOpenAt, end_of}
pub use Rattle.bits_core.specs.Lawful.{IsLawful}
pub use Rattle.bits_core.specs.Made.{IsPlaceOf, IsPrefix, clock, place_of, subhistory}
pub use Rattle.bits_core.specs.Marks.{AreMarks, settled}
pub use Rattle.bits_core.specs.Memory.{IsRecord}
pub use Rattle.bits_core.specs.Steps.{FitsOpen, IsAnswer, IsPermittedAct, MayFollow}
pub use Rattle.bits_core.specs.declared.events.Access.{Access}
pub use Rattle.bits_core.specs.declared.events.Access.TheVariants.{Read, Write}
pub use Rattle.bits_core.specs.declared.events.Act.{Act}
pub use Rattle.bits_core.specs.declared.events.Act.TheVariants.{ReadBegin, ReadEnd, WriteBegin, WriteEnd}
pub use Rattle.bits_core.specs.declared.events.Bit.{Bit}
pub use Rattle.bits_core.specs.declared.events.Event.{Event}
pub use Rattle.bits_core.specs.declared.events.Side.{Side}
pub use Rattle.bits_core.specs.declared.shapes.Shape.{Shape}
pub use Rattle.std.proofs.Math.ListN.{set}
pub use Rattle.std.proofs.Math.Seq.{take-length}
pub use Rattle.std.proofs.lemmas.Bool.{cases_lt, cases_order, false≢true, or_parts}
pub use Rattle.std.proofs.lemmas.List.{length-set, take-take, take_more}
pub use Rattle.std.proofs.lemmas.Option.{none-some, slice_get_within}
pub use Rattle.std.specs.Prelude.{if◌then◌else◌, is_some, slice_get, unwrap_or}
