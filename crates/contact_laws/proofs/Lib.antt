pub mod Counts
pub mod Walk
pub mod Quiet
pub mod Passes
pub mod Sound
pub mod Over
pub mod Alike
pub mod Within
pub mod Fair
pub mod Below
mod Broken
pub mod Few
mod Never
pub mod Either
pub mod Marker
pub mod Sixty
pub mod Row
pub mod Heard
pub mod Computed
mod Refused
mod Eleven
mod Limits
mod Witnesses
