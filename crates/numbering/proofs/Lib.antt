pub mod Stretches
pub mod Walks
pub mod Fronts
pub mod Answering
pub mod Sums
