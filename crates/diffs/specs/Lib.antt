-- The definitions that the contracts cite.
pub mod Diff
pub mod inner
