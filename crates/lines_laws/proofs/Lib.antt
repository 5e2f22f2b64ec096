pub mod Spelling
pub mod Naming
pub mod Wording
pub mod Laws
pub mod Texts
pub mod Printed
pub mod Numbers
