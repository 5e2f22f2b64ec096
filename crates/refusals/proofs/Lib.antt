pub mod Lengths
pub mod Determined
pub mod Examples
