pub mod Generator
pub mod Noise
pub mod Laws
