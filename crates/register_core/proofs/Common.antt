-- The names of other crates and of the specs that most proofs here cite, passed on from one place. Declares nothing.
pub use Rattle.bits_core.proofs.LawLemmas.{held_is_by_interval}
pub use Rattle.bits_core.specs.Bits.{begun_by, writer}
pub use Rattle.bits_core.specs.History.{before_last, held, last_value}
pub use Rattle.bits_core.specs.Intervals.{IsRead}
pub use Rattle.bits_core.specs.Lawful.{IsLawful}
pub use Rattle.bits_core.specs.Made.{IsPrefix, Made, Read}
pub use Rattle.bits_core.specs.declared.events.Access.{Access}
pub use Rattle.bits_core.specs.declared.events.Act.TheVariants.{ReadEnd}
pub use Rattle.bits_core.specs.declared.events.Bit.{Bit}
pub use Rattle.bits_core.specs.declared.events.Bit.TheVariants.{Cell}
pub use Rattle.bits_core.specs.declared.events.Event.{Event}
pub use Rattle.bits_core.specs.declared.events.Side.{Side}
pub use Rattle.bits_core.specs.declared.events.Side.TheVariants.{C, P}
pub use Rattle.bits_core.specs.declared.shapes.Shape.{Shape}
pub use Rattle.register_core.specs.BitLaw.{logical_writes}
pub use Rattle.register_core.specs.Row.{RowWrite, bits_after, bits_with, first_bits, row_bit, writes_in}
pub use Rattle.register_core.specs.Unary.{clearing, row_writes, unary_phrase, unary_writes, writes_of}
pub use Rattle.register_core.specs.UnaryLaw.{count_write}
pub use Rattle.register_core.specs.UnaryState.{UnaryState, first_access}
pub use Rattle.register_core.specs.Word.{digit, digit_writes, word_writes}
pub use Rattle.register_core.specs.WordLaw.{cell_write}
pub use Rattle.std.proofs.lemmas.Bool.{cases_lt}
pub use Rattle.std.proofs.lemmas.Bool.Decides.{nat_tests}
pub use Rattle.std.proofs.lemmas.List.{map-append, take-append-le}
pub use Rattle.std.proofs.lemmas.Option.{none-some, slice_get_within}
pub use Rattle.std.specs.List.{cons_option}
