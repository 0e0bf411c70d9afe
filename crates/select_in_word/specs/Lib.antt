pub mod Bit
pub mod Bytes
pub mod Select
pub mod Tail
pub mod Holds
