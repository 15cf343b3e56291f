-- General laws.
pub mod Cases
pub mod Reading
