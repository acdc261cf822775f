pub mod lemmas
pub mod WorkedLabels
pub mod WorkedBuckets
pub mod WorkedKeys
pub mod WorkedTables
pub mod WorkedChoice
pub mod WorkedMismatches
pub mod WorkedRestrictions
mod WorkedOkp
mod WorkedReasons
