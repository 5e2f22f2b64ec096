pub mod Write
pub mod Sender
pub mod Says
