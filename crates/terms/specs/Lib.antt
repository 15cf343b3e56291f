-- The definitions that the contracts cite.
pub mod Says
pub mod Terms
pub mod Reasons
pub mod Six
pub mod inner
