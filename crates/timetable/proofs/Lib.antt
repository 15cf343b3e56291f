-- The laws that the proofs cite, and the theorems on timetables.
pub mod Stores
pub mod Words
pub mod Marks
pub mod Bounds
pub mod Writing
pub mod Reading
pub mod Content
pub mod RoundTrip
pub mod Answers
