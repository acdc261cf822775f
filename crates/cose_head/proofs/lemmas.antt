pub mod Algorithms
pub mod Head
pub mod Placed
pub mod Reading
pub mod Reasons
pub mod Shortest
pub mod Walker
