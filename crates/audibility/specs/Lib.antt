pub mod Sound
pub mod Lines
pub mod Says
pub mod Means
