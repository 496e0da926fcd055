pub mod Tallying
pub mod Entry
pub mod Written
pub mod Reach
pub mod Filling
pub mod Agreeing
