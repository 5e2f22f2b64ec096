pub mod Trace
pub mod Blocks
