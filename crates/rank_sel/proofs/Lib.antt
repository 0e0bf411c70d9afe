pub mod Numbers
pub mod Ceil
pub mod Rank
pub mod Seek
pub mod Select
pub mod Step
pub mod Outcome
pub mod Lists
