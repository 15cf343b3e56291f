-- What only contracts between functions cite.
pub mod Answer
pub mod Steps
