pub mod Same
mod InFull
