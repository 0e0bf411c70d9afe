pub mod Bytes
pub mod Put
pub mod Formed
pub mod RoundTrip
pub mod Outcomes
