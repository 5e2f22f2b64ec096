pub mod Determined
pub mod Received
