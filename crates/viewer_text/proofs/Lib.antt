pub mod Scanning
pub mod Letters
pub mod Signs
pub mod Onward
pub mod Pieces
pub mod Determined
pub mod Examples
