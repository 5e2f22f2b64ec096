pub mod Made
pub mod Missing
pub mod Trace
pub mod Blocks
pub mod TraceMet
pub mod BlocksMet
pub mod NumberMet
