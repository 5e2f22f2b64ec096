pub mod Grid
pub mod TableDF
pub mod Lists
pub mod Looking
pub mod Entries
pub mod Hearing
pub mod Determined
pub mod Examples
