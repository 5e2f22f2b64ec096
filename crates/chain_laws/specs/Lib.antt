pub mod Same
pub mod InFull
