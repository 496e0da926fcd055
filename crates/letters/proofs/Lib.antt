pub mod Cases
pub mod Bytes
pub mod Records
pub mod Maps
pub mod Reasons
