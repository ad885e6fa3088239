-- The names of other crates and of the specs that several proofs here cite, passed on from one place. Declares nothing.
pub use Rattle.register_calls.specs.Histories.{IsWellFormed, WritesValue}
pub use Rattle.register_calls.specs.declared.auditors.ReaderState.{ReaderState}
pub use Rattle.register_calls.specs.declared.chains.Chain.{Chain}
pub use Rattle.register_calls.specs.declared.events.Register.{Register}
pub use Rattle.register_calls.specs.declared.events.RegisterEvent.{RegisterEvent}
pub use Rattle.register_recordings.specs.Misses.{AreMisses, IsMissOf}
pub use Rattle.register_recordings.specs.Reading.{ContinuesRegister, HasJudged, HasReadEvents, HasReadLineEvent, HasReadRegister, RefusesRegisterLine}
pub use Rattle.register_recordings.specs.Recordings.{RefusesRegisterText}
pub use Rattle.register_recordings.specs.declared.recordings.JudgedLines.{JudgedLines}
pub use Rattle.std.proofs.lemmas.Bool.{eqb-true, false≢true}
pub use Rattle.std.proofs.lemmas.List.{append-nil, nil_from_length}
