pub mod Marks
pub mod WorkedRefused
