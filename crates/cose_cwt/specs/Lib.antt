pub mod Claims
pub mod Confirmation
pub mod Admission
pub mod Requirements
pub mod Token
pub mod Required
pub mod Laws
pub mod Elsewhere
