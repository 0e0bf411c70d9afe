pub mod Starts
pub mod Read
pub mod Rank
