pub mod Plan
pub mod Taking
pub mod Report
pub mod Says
