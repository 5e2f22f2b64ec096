pub mod Through
pub mod Hearing
pub mod Recorded
pub mod Says
pub mod Row
pub mod Demand1
pub mod HearingMet
pub mod RecordedMet
mod RowMet
