pub mod Bytes
pub mod StoreBack
pub mod Determined
