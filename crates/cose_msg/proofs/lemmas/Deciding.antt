pub mod Decisions
pub mod Frames
pub mod KeptAnswers
pub mod PhaseCases
pub mod Places
pub mod Signatures
pub mod StatedElsewhere
pub mod Untouched
