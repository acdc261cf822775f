pub mod AllThere
pub mod Inside
pub mod Placed
pub mod PlacedTrees
pub mod Whole
