pub mod Faults
pub mod TraceText
pub mod Trace
pub mod TraceReading
pub mod TraceAudits
pub mod Laws
