pub mod OneMore
pub mod Adding
pub mod Turns
pub mod Next
pub mod Asked
pub mod Judged
pub mod Determined
