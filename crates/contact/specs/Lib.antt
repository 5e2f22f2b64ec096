pub mod History
pub mod Contacts
pub mod Judge
pub mod Under
pub mod Says
