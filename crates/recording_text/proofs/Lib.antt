pub mod Counting
pub mod Pieces
pub mod FrameLaws
pub mod RecordLaws
pub mod Determined
pub mod Examples
