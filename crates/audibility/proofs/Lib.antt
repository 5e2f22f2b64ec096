mod Some
mod Pieces
mod Ten
pub mod Determined
mod Means
