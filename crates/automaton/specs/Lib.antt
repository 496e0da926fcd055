pub mod Queue
pub mod Building
pub mod Lending
