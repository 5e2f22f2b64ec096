pub mod Balise
pub mod Distance
pub mod Speed
pub mod Numbers
pub mod Judge
pub mod Says
pub mod Inside
