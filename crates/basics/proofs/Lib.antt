-- General laws.
pub mod Bools
pub mod Lists
pub mod Bitmaps
