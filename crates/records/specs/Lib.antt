pub mod Run
pub mod Book
pub mod Told
pub mod Stored
pub mod Classes
