pub mod Calls
pub mod Live
pub mod Explain
pub mod Demand1
