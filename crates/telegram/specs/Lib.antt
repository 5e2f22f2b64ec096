pub mod Stretch
pub mod Sync
pub mod Telegram
pub mod Spelling
pub mod Place
pub mod Survey
pub mod Says
