pub mod Cells
pub mod Selects
pub mod Tally
pub mod List
