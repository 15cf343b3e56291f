-- What only contracts between functions cite.
pub mod Steps
