pub mod Floats
pub mod Span
pub mod Facts
