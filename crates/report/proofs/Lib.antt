-- General laws.
pub mod Putting
pub mod Decimals
pub mod Listing
pub mod Lengths
pub mod Telling
