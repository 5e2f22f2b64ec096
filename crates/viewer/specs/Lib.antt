pub mod Stand
pub mod Viewing
pub mod Going
pub mod Says
pub mod History
pub mod Laws
