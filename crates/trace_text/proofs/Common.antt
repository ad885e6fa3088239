-- The names of other crates and of the specs that most proofs here cite, passed on from one place. Declares nothing.
pub use Rattle.bits_core.specs.Shape.{AreOfShape, batch_of, belongs, capacity_of, modulus_of, take_batch_of, width_of}
pub use Rattle.bits_core.specs.declared.events.Act.{Act}
pub use Rattle.bits_core.specs.declared.events.Bit.{Bit}
pub use Rattle.bits_core.specs.declared.events.Event.{Event}
pub use Rattle.bits_core.specs.declared.events.Side.{Side}
pub use Rattle.bits_core.specs.declared.faults.ShapeFault.{ShapeFault}
pub use Rattle.bits_core.specs.declared.shapes.Shape.{Shape}
pub use Rattle.line_parts.specs.LineEnds.{HasNoFeed}
pub use Rattle.std.proofs.lemmas.Bool.{eqb-true}
pub use Rattle.std.proofs.lemmas.List.Elements.{All-append}
pub use Rattle.std.proofs.lemmas.Option.{none-some, same_Some}
pub use Rattle.std.specs.Prelude.{codes, decimal, ◌==◌}
pub use Rattle.trace_text.specs.Trace.{BeginsWithShape, HasBadShape, HasNoEvent, HasShapeLine, IsTraceText, RefusesTraceText}
pub use Rattle.trace_text.specs.TraceAudits.{HasEnded, HasReadTrace}
pub use Rattle.trace_text.specs.TraceText.{event_line, shape_line, trace_text}
pub use Rattle.trace_text.specs.declared.faults.TraceFault.{TraceFault}
pub use Rattle.trace_text.specs.declared.faults.TraceFault.TheVariants.{BadLine, BadShape, TooLong}
pub use Rattle.trace_text.specs.declared.trace_audits.TraceHearing.{TraceHearing}
