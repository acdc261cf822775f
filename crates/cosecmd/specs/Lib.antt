pub mod Allowed
pub mod CommandLine
pub mod Fields
pub mod Headers
pub mod InputForm
pub mod Options
pub mod PayloadTo
pub mod Requirements
