pub mod ArgumentBounds
pub mod Meanings
pub mod PhaseSteps
pub mod StructureHashes
pub mod Unsettled
