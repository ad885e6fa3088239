mod RingLemmas
pub mod Results
