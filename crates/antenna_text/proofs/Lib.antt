pub mod Shown
pub mod Advancing
pub mod Determined
pub mod Examples
