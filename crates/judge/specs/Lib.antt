-- The definitions that the contracts cite, and what is proved of them.
pub mod Plan
pub mod Judged
pub mod Shown
pub mod Values
pub mod Demand2
pub mod Demand1
pub mod Bounds
pub mod Fronts
pub mod Sixes
pub mod Texts
pub mod Starred
pub mod inner
