-- What document 02 promises beside the three demands.
pub mod Cards
pub mod TraceCalls
pub mod Told
pub mod Blocks
pub mod Sections
pub mod Writing
pub mod OddOrEven
pub mod FalsePlaces
pub mod SyncNoise
pub mod PlainGap
pub mod Settings
pub mod Reasons
