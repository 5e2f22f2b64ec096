pub mod Bytes
pub mod SoFar
pub mod Laws
pub mod Determined
pub mod Examples
