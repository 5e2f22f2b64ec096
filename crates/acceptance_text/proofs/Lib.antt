pub mod Pieces
pub mod Takings
pub mod Ends
pub mod Turns
pub mod Way
pub mod Blocks
pub mod Examples
pub mod Determined
