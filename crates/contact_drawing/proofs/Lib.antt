pub mod Each
pub mod Determined
pub mod Roomy
pub mod Boxed
pub mod OnAStrip
pub mod Plain
pub mod Examples
