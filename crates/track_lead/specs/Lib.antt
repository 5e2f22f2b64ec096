pub mod Way
pub mod Sent
pub mod Feed
pub mod Lead
pub mod Says
pub mod Laws
