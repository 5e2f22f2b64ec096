pub mod Record
pub mod Says
pub mod Received
