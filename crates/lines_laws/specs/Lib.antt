pub mod Laws
pub mod Calls
pub mod Texts
pub mod Printed
