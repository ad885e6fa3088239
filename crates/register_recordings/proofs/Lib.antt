mod Common
mod MissLemmas
mod EventLemmas
mod FurtherLines
mod RecordingLemmas
mod Shortfalls
