pub mod Counting
pub mod Lines
