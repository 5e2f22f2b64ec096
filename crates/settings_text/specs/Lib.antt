pub mod Line
pub mod Taking
pub mod Sheet
pub mod Told
