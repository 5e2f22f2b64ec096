pub mod Versions
pub mod Store
pub mod At
pub mod Says
pub mod Laws
