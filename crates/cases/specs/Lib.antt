-- What the cases' contracts cite.
pub mod Cases
