pub mod Sure
pub mod WholeWay
pub mod Noise
pub mod Calls
pub mod ByCalls
pub mod Demand1
