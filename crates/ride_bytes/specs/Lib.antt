pub mod Things
pub mod Rides
