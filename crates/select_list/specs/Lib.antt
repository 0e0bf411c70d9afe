pub mod Step
pub mod List
pub mod Hand
