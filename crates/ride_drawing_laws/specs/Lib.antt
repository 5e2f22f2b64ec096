pub mod Pictures
pub mod Blocks
pub mod Pages
