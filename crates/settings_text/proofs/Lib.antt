pub mod Lines
pub mod Steps
pub mod Pieces
pub mod Giving
pub mod Determined
pub mod Examples
pub mod Good
