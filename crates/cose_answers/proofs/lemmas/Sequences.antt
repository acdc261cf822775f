pub mod EachMessage
pub mod NextMessages
pub mod NextTokens
pub mod PartLines
pub mod VerifiedSequences
