pub mod TextReading
pub mod NumberReading
pub mod LineFeeds
