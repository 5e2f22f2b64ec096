pub mod Row
pub mod Rows
pub mod Fitting
pub mod Open
pub mod Stands
pub mod Opening
pub mod OneWay
