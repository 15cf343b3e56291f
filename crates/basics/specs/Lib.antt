-- What docs/RULES.md takes for granted.
pub mod Bools
pub mod Lists
pub mod inner
