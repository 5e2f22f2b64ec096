pub mod Determined
pub mod Steps
pub mod Places
