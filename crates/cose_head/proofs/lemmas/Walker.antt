pub mod WalkSteps
pub mod WalkedHeads
pub mod WalkerLaws
pub mod WalkerSteps
pub mod Walking
