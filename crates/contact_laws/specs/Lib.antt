pub mod Calls
pub mod Zeroes
pub mod Pass
pub mod Heard
pub mod Marker
pub mod Row
pub mod Limits
