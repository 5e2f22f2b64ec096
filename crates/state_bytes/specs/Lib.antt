pub mod Figures
pub mod Inside
pub mod Stores
