pub mod Answer
pub mod Bits
pub mod Limits
pub mod Plain
pub mod Why
pub mod Code
pub mod Says
