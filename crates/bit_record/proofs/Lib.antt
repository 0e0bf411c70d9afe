pub mod Selected
pub mod Seek
pub mod Same
pub mod Counted
pub mod Bits
pub mod Step
