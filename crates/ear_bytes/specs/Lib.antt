pub mod Ears
pub mod Sizes
pub mod Hearing
pub mod Inside
pub mod Says
pub mod Laws
