pub mod Characters
pub mod Determined
pub mod Examples
pub mod Largest
pub mod Signs
