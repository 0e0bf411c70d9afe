pub mod Step
pub mod Walk
