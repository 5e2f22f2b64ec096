pub mod Determined
pub mod Riding
