pub mod Codes
pub mod Calls
pub mod Logarithms
