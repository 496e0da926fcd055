pub mod Positions
pub mod Writing
pub mod Changes
pub mod Answers
