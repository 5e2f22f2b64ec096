pub mod Places
pub mod List
pub mod Says
pub mod Inside
