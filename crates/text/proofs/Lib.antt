pub mod Decimal
pub mod Placing
pub mod Standing
pub mod Putting
pub mod Fitting
pub mod Determined
