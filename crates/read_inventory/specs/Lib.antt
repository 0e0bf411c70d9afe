pub mod Read
pub mod Tests
pub mod Tested
pub mod Jump
pub mod Steps
