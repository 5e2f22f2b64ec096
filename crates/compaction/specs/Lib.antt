pub mod Dropped
pub mod Smaller
pub mod Blocks
pub mod Compact
pub mod Inside
pub mod Says
