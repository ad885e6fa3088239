-- The law of the ring over spans: the positions of scans and count writes among a side's own events.
pub mod CallSpans
pub mod Clocks
pub mod Distances
pub mod Gates
pub mod LookSpans
pub mod Looks
pub mod RegularScans
pub mod RingOfSpans
pub mod SpanItems
pub mod SpanLaw
pub mod Spans
pub mod Timeline
