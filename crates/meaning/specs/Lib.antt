pub mod Numbers
pub mod Words
pub mod Automaton
pub mod Table
pub mod Readings
pub mod Listing
pub mod Plain
