pub mod Line
pub mod Forty
