pub mod Ranks
pub mod Reading
pub mod Written
pub mod Walk
pub mod Placed
