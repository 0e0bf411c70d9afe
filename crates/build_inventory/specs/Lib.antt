pub mod Positions
pub mod Placed
pub mod Stream
pub mod Compare
pub mod Build
