pub mod Calls
pub mod Hearing
pub mod Recorded
pub mod Says
pub mod Row
pub mod Demand1
