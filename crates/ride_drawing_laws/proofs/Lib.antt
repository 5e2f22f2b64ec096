pub mod Pictures
pub mod Blocks
pub mod BlocksMet
pub mod Pages
