pub mod ByContract
pub mod Lines
pub mod Accepted
pub mod Calls
pub mod Depot
