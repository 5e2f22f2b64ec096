pub mod Opening
pub mod Reason
pub mod Explain
pub mod Says
pub mod Inside
pub mod Truths
pub mod Text
