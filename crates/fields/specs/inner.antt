-- What only contracts between functions cite.
pub mod Tape
pub mod Values
pub mod Bounds
pub mod Kept
pub mod Digits
