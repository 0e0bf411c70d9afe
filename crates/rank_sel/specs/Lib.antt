pub mod Numbers
pub mod Rank
pub mod Seek
pub mod Step
pub mod Outcome
pub mod Lists
