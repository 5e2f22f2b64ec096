pub mod Pass
pub mod Reading
pub mod Marker
pub mod Lines
pub mod Limits
