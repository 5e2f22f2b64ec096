-- What the proofs of all demands cite: rules in the order of judging, the conditions spelled out,
-- and how the balises of a group fit.
pub mod Rules
pub mod Fits
pub mod Spelled
pub mod OneVersion
