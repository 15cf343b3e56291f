-- What only contracts between functions cite.
pub mod Tables
pub mod Values
pub mod Marks
