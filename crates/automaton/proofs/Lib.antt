pub mod Known
pub mod Joining
pub mod Breadth
pub mod Planting
pub mod Finishing
pub mod Lent
