mod Writes
mod Shortness
