-- General laws.
pub mod Numbers
