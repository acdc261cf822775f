-- The statements of the laws.
pub mod Allowed
pub mod Further
pub mod Inside
pub mod Least
pub mod Place
pub mod Points
pub mod Reasons
pub mod Tree
pub mod Chosen
