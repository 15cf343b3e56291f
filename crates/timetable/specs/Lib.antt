-- The definitions that the contracts cite.
pub mod Word
pub mod Table
pub mod Times
pub mod inner
