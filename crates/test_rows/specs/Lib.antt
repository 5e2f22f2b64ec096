pub mod Counting
pub mod Spelling
pub mod Answers
pub mod Balises
