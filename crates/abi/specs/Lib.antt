pub mod Face
pub mod Contacts
pub mod Stores
pub mod Rides
pub mod Leads
