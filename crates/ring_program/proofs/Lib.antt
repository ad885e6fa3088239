pub mod CommandLemmas
mod PlayLemmas
mod Endings
mod FirstFaults
mod Gains
mod InlineLines
mod ReadingLemmas
mod RegisterLemmas
mod RecordingText
mod RunItems
mod RunTelling
mod RunText
mod TellingText
mod TextLemmas
pub mod WhyLemmas
