-- What only contracts between functions cite.
pub mod Words
pub mod Kept
pub mod Once
pub mod Bitmap
pub mod Values
