pub mod Reading
pub mod Decoding
pub mod Passing
pub mod Answers
pub mod Parts
pub mod PartSize
pub mod ReadBack
pub mod Ten
