-- A set of labels.
pub mod Keys
pub mod Others
pub mod Key
