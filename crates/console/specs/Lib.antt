pub mod Asked
pub mod Pass
