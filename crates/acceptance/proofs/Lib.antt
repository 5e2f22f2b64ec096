pub mod Walks
pub mod Filling
pub mod Cases
pub mod Determined
