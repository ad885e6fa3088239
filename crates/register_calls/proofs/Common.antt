-- The names of other crates and of the specs that several proofs here cite, passed on from one place. Declares nothing.
pub use Rattle.register_calls.specs.Audits.{KeepsOrder, KeepsRead, KeepsScope, MovesReader, RefusesRegisterEvent, lows, own_floors, own_lows, reader_at}
pub use Rattle.register_calls.specs.Chains.{ShowsReads, chain_at, fresh_chain}
pub use Rattle.register_calls.specs.Classes.{Choice, EachAlone, HasClass, HasOrder, IsOf, IsRegular, IsSafe, NoneIsLater, Orders, Scope, Together, sees}
pub use Rattle.register_calls.specs.Histories.{ComesInTurn, IsBeginning, IsValue, IsWellFormed, before_read, finished, has_read_open, started, written_values}
pub use Rattle.register_calls.specs.Intervals.{Chooses, HasChoice, IsReadFrom, IsWriteFrom, MayBeOf, WriteHasEnded, placed_event}
pub use Rattle.register_calls.specs.Judging.{HasNone, IsFirstPlace, IsGreater, IsLeast, IsRaised, still}
pub use Rattle.register_calls.specs.Witnesses.{IsRaisingLink, KeepsBounds, begin_places, link_of}
pub use Rattle.register_calls.specs.declared.auditors.FoundWrites.{FoundWrites}
pub use Rattle.register_calls.specs.declared.auditors.OpenRead.{OpenRead}
pub use Rattle.register_calls.specs.declared.auditors.ReaderState.{ReaderState}
pub use Rattle.register_calls.specs.declared.chains.Chain.{Chain}
pub use Rattle.register_calls.specs.declared.events.Class.{Class}
pub use Rattle.register_calls.specs.declared.events.Class.TheVariants.{Atomic, AtomicByReader, Regular, Safe}
pub use Rattle.register_calls.specs.declared.events.Register.{Register}
pub use Rattle.register_calls.specs.declared.events.RegisterEvent.{RegisterEvent}
pub use Rattle.register_calls.specs.declared.events.RegisterEvent.TheVariants.{ReadBegins, ReadEnds, WriteBegins, WriteEnds}
pub use Rattle.register_calls.specs.declared.reasons.EarlierRead.{EarlierRead}
pub use Rattle.std.proofs.lemmas.Bool.{cases_lt, eq-eqb, ne_eqb}
pub use Rattle.std.proofs.lemmas.Bool.Decides.{eqb_tells}
pub use Rattle.std.proofs.lemmas.Option.{none-some, same_Some, slice_get-get_or, slice_get_within}
pub use Rattle.std.specs.Prelude.{nat_lt, option_map, slice_index_or}
