pub mod Alike
pub mod Nan
pub mod Selects
