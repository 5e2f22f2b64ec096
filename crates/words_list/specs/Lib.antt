pub mod Listed
pub mod Alike
