mod Returns
pub mod Logarithms
pub mod Slices
