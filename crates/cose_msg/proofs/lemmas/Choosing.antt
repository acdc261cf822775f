pub mod ChoiceReadings
pub mod Choices
pub mod ChosenKeys
pub mod Purposed
