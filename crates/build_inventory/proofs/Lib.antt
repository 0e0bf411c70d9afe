pub mod Parts
pub mod Positions
pub mod Cells
pub mod Turns
pub mod Fill
pub mod Comparing
pub mod Outcomes
pub mod Summaries
