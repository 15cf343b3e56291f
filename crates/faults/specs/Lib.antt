-- The definitions that the contracts cite.
pub mod Limits
pub mod Answer
pub mod Values
pub mod inner
