pub mod Determined
pub mod Figures
pub mod Pieces
pub mod Standing
