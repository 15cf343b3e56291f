-- The definitions that the contracts cite.
pub mod Packed
pub mod inner
