pub mod Messages
pub mod Number
pub mod Scan
pub mod Words
