pub mod Text
pub mod Pieces
pub mod Finding
pub mod Seeking
pub mod Commands
pub mod Screen
pub mod Missing
