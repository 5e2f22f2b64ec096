pub mod Common
pub mod Demand1
pub mod Demand2
pub mod Demand3
pub mod Beside
pub mod Witness
