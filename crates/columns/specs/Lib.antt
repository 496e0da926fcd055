pub mod Columns
pub mod Entries
pub mod Scans
pub mod Reaching
