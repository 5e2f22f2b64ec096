pub mod Session
pub mod Lasting
pub mod Seeking
