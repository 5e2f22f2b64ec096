pub mod Take
pub mod Text
pub mod Good
pub mod Left
pub mod Witness
