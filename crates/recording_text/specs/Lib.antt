pub mod Counts
pub mod Lines
pub mod Laws
