pub mod Found
pub mod FoundForms
pub mod FoundFronts
pub mod FoundMessages
