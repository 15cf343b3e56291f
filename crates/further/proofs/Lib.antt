-- The laws of demand 3, the theorem, and plans that it speaks of.
pub mod Lists
pub mod Agree
pub mod Added
pub mod Broken
pub mod Founding
pub mod Lines
pub mod Saying
pub mod Theorem
pub mod Texts
pub mod Pairs
pub mod Witness
