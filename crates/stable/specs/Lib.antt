-- The definitions that the contracts cite.
pub mod Meaning
pub mod Normal
pub mod inner
