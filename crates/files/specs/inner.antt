-- What only contracts between functions cite.
pub mod Cases
