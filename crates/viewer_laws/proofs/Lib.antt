pub mod Session
pub mod Stopping
pub mod Witness
pub mod SessionMet
pub mod Lasting
pub mod Seeking
