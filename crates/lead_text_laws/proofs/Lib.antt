pub mod Telling
pub mod Comes
pub mod Room
pub mod Live
pub mod LiveMet
pub mod Eights
pub mod Explain
pub mod Demand1
