pub mod Style
pub mod Text
pub mod Told
pub mod List
pub mod Says
pub mod SameLines
pub mod Reasoned
