pub mod Said
pub mod Record
pub mod Says
pub mod Thing
pub mod Line
