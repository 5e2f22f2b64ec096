pub mod Ones
pub mod Taking
pub mod Blocks
pub mod Latest
pub mod Run
pub mod TheLead
pub mod Determined
pub mod Examples
