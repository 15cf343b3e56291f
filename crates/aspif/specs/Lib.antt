-- The definitions that the contracts cite.
pub mod Statements
pub mod Grammar
pub mod Candidate
pub mod Before
pub mod Ends
pub mod inner
