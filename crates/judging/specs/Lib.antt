pub mod Under
pub mod Order
pub mod Judging
