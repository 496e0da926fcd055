pub mod Refusal
pub mod Letters
pub mod Record
