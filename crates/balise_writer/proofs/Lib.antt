pub mod Bytes
pub mod Answers
pub mod Accepted
pub mod Heard
pub mod Valid
pub mod Determined
pub mod Examples
