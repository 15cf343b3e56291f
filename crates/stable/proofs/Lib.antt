-- What the functions' proofs cite, then the laws of the meaning.
pub mod Reduct
pub mod Normal
pub mod Lines
pub mod Literals
pub mod Weighing
pub mod Bodies
pub mod Marks
pub mod Chosen
pub mod Heads
pub mod Breaking
pub mod Listing
pub mod Rounds
pub mod Filling
pub mod Seeking
pub mod Joining
pub mod FirstBroken
pub mod Stability
