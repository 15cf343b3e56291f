-- General laws.
pub mod Packing
pub mod Halves
