pub mod Answered
pub mod PayloadLimit
pub mod Runs
pub mod Slices
pub mod Purposes
