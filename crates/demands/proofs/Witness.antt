-- Hypotheses of the theorems are met: lines, calls, records and stores that do.
pub mod SyncWitnesses
pub mod Witnesses
pub mod CallsMet
pub mod WritingMet
pub mod MarksMet
pub mod RidesMet
pub mod ReasonsMet
pub mod NumbersMet
pub mod ListsMet
pub mod SectionsMet
pub mod StoresMet
