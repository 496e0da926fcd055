pub mod Steps
pub mod Search
pub mod Lasts
pub mod Writes
pub mod Backwards
pub mod Leftmost
pub mod Told
