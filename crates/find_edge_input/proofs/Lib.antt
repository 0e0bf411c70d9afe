pub mod Digits
pub mod Steps
pub mod Bits
pub mod Examples
