pub mod Found
pub mod Layout
pub mod Forms
pub mod Tree
pub mod Index
pub mod Insertion
pub mod Filling
