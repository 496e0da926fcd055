pub mod Under
pub mod Verdicts
pub mod Cleared
pub mod Orders
