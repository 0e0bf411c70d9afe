pub mod Spans
pub mod Shape
pub mod Lanes
pub mod Index
pub mod Lawful
pub mod Numbers
