pub mod Lines
pub mod Taking
pub mod Accept
pub mod Says
pub mod Inside
