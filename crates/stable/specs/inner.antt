-- What only contracts between functions cite.
pub mod Values
pub mod Index
pub mod Steps
