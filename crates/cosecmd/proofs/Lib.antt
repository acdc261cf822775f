pub mod lemmas
pub mod WorkedAllowed
pub mod WorkedLabels
pub mod WorkedOptions
pub mod WorkedRequirements
