pub mod Entries
pub mod Law
pub mod ByHand
pub mod Alike
pub mod Determined
